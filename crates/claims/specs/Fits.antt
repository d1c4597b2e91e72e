-- Whether a tree t, owners' bytes o and a base are an allocator's. Assumes nothing.
use Rattle.std.specs.Prelude.{◌≡◌, List, ℕ, ◌%◌, length, ⊤, Result, Ok, Err}
use Rattle.bitmap_tree.specs.Tree.{cap, Full}
use Rattle.owners.specs.States.{Matched}
use Rattle.claims.specs.declared.Unfit.{Unfit}

-- the memories match and the base is a multiple of 4096
pub record Fits (base : ℕ) (t o : List ℕ) : Type 0 where
  pub matched : Matched t o
  pub aligned : base % 4096 ≡ 0

-- the first reason why they do not fit
abbrev pub Misfit : ℕ → List ℕ → List ℕ → Unfit → Type 0
Misfit base t o Unfit.NotFull = Full (length t) → ⊥
Misfit base t o Unfit.Unmatched = Full (length t) × (length o ≡ cap t → ⊥)
Misfit base t o Unfit.BadBase = Matched t o × (base % 4096 ≡ 0 → ⊥)

abbrev pub FitSays : ℕ → List ℕ → List ℕ → Result ⊤ Unfit → Type 0
FitSays base t o (Ok _) = Fits base t o
FitSays base t o (Err why) = Misfit base t o why
