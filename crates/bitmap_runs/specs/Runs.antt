-- Runs of free frames. Assumes nothing.
use Rattle.std.specs.Prelude.{◌≡◌, List, ℕ, ◌+◌, ◌%◌, ◌^◌, ◌<◌, ◌≤◌, Result, Ok, Err}
use Rattle.bitmap_tree.specs.Tree.{free, cap, Agree}
use Rattle.bitmap_search.specs.declared.Missed.{Missed}
use Rattle.bitmap_search.specs.declared.Missed.TheVariants.{Nothing, Corrupt}

-- the n frames from base on are free, and base is a multiple of 2 ^ a
pub record Run (t : List ℕ) (n a base : ℕ) : Type 0 where
  pub fits : base + n ≤ cap t
  pub aligned : base % 2 ^ a ≡ 0
  pub clear : (m : ℕ) → base ≤ m → m < base + n → free t m ≡ 1

-- there is a run at base, and where the summaries agree, there is none lower
pub record LowestRun (t : List ℕ) (n a base : ℕ) : Type 0 where
  pub run : Run t n a base
  pub lowest : Agree t → (x : ℕ) → Run t n a x → base ≤ x

-- s is the lowest multiple of al that is not below f
pub record Rounded (f al s : ℕ) : Type 0 where
  pub low : f ≤ s
  pub small : s < f + al
  pub aligned : s % al ≡ 0
  pub least : (x : ℕ) → f ≤ x → x % al ≡ 0 → s ≤ x

abbrev pub SearchSays : List ℕ → ℕ → ℕ → Result ℕ Missed → Type 0
SearchSays t n a (Ok s) = LowestRun t n a s
SearchSays t n a (Err Nothing) = Agree t → (x : ℕ) → Run t n a x → ⊥
SearchSays t n a (Err Corrupt) = Agree t → ⊥
