-- What `encode` answers: t are the words, o are the bytes before, and o' after. Every refusal has o' ≡ o. Assumes nothing.
use Rattle.std.specs.Prelude.{◌≡◌, List, ℕ, ◌≤◌, ◌<◌, length, get_or, take, Result, Ok, Err}
use Rattle.config_model.specs.Config.{Same}
use Rattle.config_bytes.specs.Fields.{config_of, Means}
use Rattle.config_view.specs.Table.{table_config}
use Rattle.config_encode.specs.Encoding.{size_of}
use Rattle.config.specs.Tables.{Writable, CheckTableSays}
use Rattle.config.specs.declared.NotEncoded.{NotEncoded}

-- the first n bytes mean the configuration of the table, and no byte behind them is changed
pub record WasEncoded (t o : List ℕ) (n : ℕ) (o' : List ℕ) : Type 0 where
  pub writable : Writable t
  pub size : n ≡ size_of (table_config t)
  pub room : n ≤ length o
  pub means : Means (take n o')
  pub same : Same (config_of (take n o')) (table_config t)
  pub long : length o' ≡ length o
  pub rest : (k : ℕ) → n ≤ k → get_or o' k 0 ≡ get_or o k 0

-- nothing changed: the bytes are too few
pub record TooFew (t o : List ℕ) (n : ℕ) (o' : List ℕ) : Type 0 where
  pub kept : o' ≡ o
  pub writable : Writable t
  pub size : n ≡ size_of (table_config t)
  pub short : length o < n

abbrev pub EncodeSays : List ℕ → List ℕ → List ℕ → Result ℕ NotEncoded → Type 0
EncodeSays t o o' (Ok n) = WasEncoded t o n o'
EncodeSays t o o' (Err (NotEncoded.NoRoom n)) = TooFew t o n o'
EncodeSays t o o' (Err (NotEncoded.Table e)) = (o' ≡ o) × CheckTableSays t (Err e)
