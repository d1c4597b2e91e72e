-- The search for short runs, a word of starts at a time. Assumes nothing.
use Rattle.std.specs.Prelude.{List, ℕ, ◌+◌, ◌-◌, ◌*◌, ◌/◌, ◌<◌, ◌≤◌, length, Result, Ok, Err}
use Rattle.bitmap_tree.specs.Tree.{Agree}
use Rattle.bitmap_search.specs.declared.Missed.{Missed}
use Rattle.bitmap_search.specs.declared.Missed.TheVariants.{Nothing, Corrupt}
use Rattle.bitmap_runs.specs.declared.Looked.{Looked}
use Rattle.bitmap_runs.specs.declared.Looked.TheVariants.{At, From}
use Rattle.bitmap_runs.specs.Runs.{Run, LowestRun}

-- p is a word of frames, and where the summaries agree, no run starts in a word before it
pub record Scanning (t : List ℕ) (n a p : ℕ) : Type 0 where
  pub low : (length t - 1) / 16 ≤ p
  pub none : Agree t → (x : ℕ) → Run t n a x → 16 * p + 1 ≤ length t + x

-- the search goes on at word q, behind word p
pub record GoesOn (t : List ℕ) (n a p q : ℕ) : Type 0 where
  pub more : p < q
  pub within : q ≤ length t
  pub next : Scanning t n a q

abbrev pub LookSays : List ℕ → ℕ → ℕ → ℕ → Result Looked Missed → Type 0
LookSays t n a p (Ok (At s)) = LowestRun t n a s
LookSays t n a p (Ok (From q)) = GoesOn t n a p q
LookSays t n a p (Err Nothing) = Agree t → (x : ℕ) → Run t n a x → ⊥
LookSays t n a p (Err Corrupt) = Agree t → ⊥
