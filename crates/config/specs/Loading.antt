-- What `load` answers: s are the bytes, t is the table before, and t' after. Every refusal has t' ≡ t. Assumes nothing.
use Rattle.std.specs.Prelude.{◌≡◌, List, ℕ, length, Result, Ok, Err}
use Rattle.config_bytes.specs.Fields.{config_of}
use Rattle.config_view.specs.Table.{Table}
use Rattle.config.specs.Checking.{IsRight, RefusedSays}
use Rattle.config.specs.declared.NotLoaded.{NotLoaded}

-- the bytes are right, and t' is the table of what they mean
pub record WasLoaded (s t : List ℕ) (n : ℕ) (t' : List ℕ) : Type 0 where
  pub long : length t ≡ 8325
  pub right : IsRight s n
  pub is : Table (config_of s) t'

abbrev pub LoadSays : List ℕ → List ℕ → List ℕ → Result ℕ NotLoaded → Type 0
LoadSays s t t' (Ok n) = WasLoaded s t n t'
LoadSays s t t' (Err (NotLoaded.Refused r)) = (t' ≡ t) × (length t ≡ 8325) × RefusedSays s r
LoadSays s t t' (Err NotLoaded.NoTable) = (t' ≡ t) × (length t ≡ 8325 → ⊥)
