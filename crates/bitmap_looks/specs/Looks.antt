-- What the functions that only look at a tree t answer. `free`, `cap`, `Full` and `Agree` are those of bitmap_tree. Assumes nothing.
use Rattle.std.specs.Prelude.{◌≡◌, List, ℕ, ◌+◌, ◌-◌, ◌*◌, ◌/◌, ◌<◌, ◌≤◌, length, get_or, Bool, true, false, Option, Some, None, Result, Ok, Err}
use Rattle.base.specs.Ranges.{how_many}
use Rattle.bitmap_tree.specs.Tree.{free, cap, Full, Agree, Summarised}
use Rattle.bitmap_search.specs.Found.{IsNext, NoneFrom}
use Rattle.bitmap_search.specs.declared.Missed.{Missed}
use Rattle.bitmap_tree.specs.declared.NotFull.{NotFull}
use Rattle.bitmap_looks.specs.declared.NotTested.{NotTested}
use Rattle.bitmap_looks.specs.declared.NoNext.{NoNext}
use Rattle.bitmap_looks.specs.declared.Unsound.{Unsound}

-- the number of words is that of the full tree with so many frames, or there is no such tree
abbrev pub WordsSays : ℕ → Option ℕ → Type 0
WordsSays frames (Some w) = Full w × (15 * w + 1 ≡ frames)
WordsSays frames None = (w : ℕ) → Full w → 15 * w + 1 ≡ frames → ⊥

-- the number of frames
abbrev pub CapSays : List ℕ → Result ℕ NotFull → Type 0
CapSays t (Ok n) = Full (length t) × (n ≡ cap t)
CapSays t (Err _) = Full (length t) → ⊥

-- how many frames of t are free
abbrev pub free_frames : List ℕ → ℕ
free_frames t = how_many (free t) (cap t)

abbrev pub CountSays : List ℕ → Result ℕ NotFull → Type 0
CountSays t (Ok n) = Full (length t) × (n ≡ free_frames t)
CountSays t (Err _) = Full (length t) → ⊥

-- some frame of t is free
pub record HasFree (t : List ℕ) : Type 0 where
  pub frame : ℕ
  pub within : frame < cap t
  pub is : free t frame ≡ 1

-- the root says whether some frame is free
abbrev pub AnySays : List ℕ → Result Bool NotFull → Type 0
AnySays t (Ok true) = Full (length t) × (get_or t 0 0 ≡ 0 → ⊥) × (Agree t → HasFree t)
AnySays t (Ok false) = Full (length t) × (get_or t 0 0 ≡ 0) × (Agree t → NoneFrom t 0)
AnySays t (Err _) = Full (length t) → ⊥

abbrev pub TestSays : List ℕ → ℕ → Result Bool NotTested → Type 0
TestSays t k (Ok true) = Full (length t) × (k < cap t) × (free t k ≡ 1)
TestSays t k (Ok false) = Full (length t) × (k < cap t) × (free t k ≡ 0)
TestSays t k (Err NotTested.Outside) = Full (length t) × (cap t ≤ k)
TestSays t k (Err NotTested.NotFull) = Full (length t) → ⊥

abbrev pub NextSays : List ℕ → ℕ → Result ℕ NoNext → Type 0
NextSays t k (Ok f) = Full (length t) × IsNext t k f
NextSays t k (Err NoNext.Nothing) = Full (length t) × (k < cap t) × (Agree t → NoneFrom t k)
NextSays t k (Err NoNext.Corrupt) = Full (length t) × (k < cap t) × (Agree t → ⊥)
NextSays t k (Err NoNext.Outside) = Full (length t) × (cap t ≤ k)
NextSays t k (Err NoNext.NotFull) = Full (length t) → ⊥

-- why a search finds nothing, as `next` says it
abbrev pub no_next : Missed → NoNext
no_next Missed.Nothing = NoNext.Nothing
no_next Missed.Corrupt = NoNext.Corrupt

-- p is the lowest word with a bit that does not say whether the word that it speaks for, `child`, has a set bit
pub record LowestLie (t : List ℕ) (p : ℕ) : Type 0 where
  pub child : ℕ
  pub some : 0 < child
  pub within : child < length t
  pub under : (child - 1) / 16 ≡ p
  pub lies : Summarised t child → ⊥
  pub lowest : (n : ℕ) → 0 < n → n < length t → (n - 1) / 16 < p → Summarised t n

abbrev pub CheckSays : List ℕ → Result Unit Unsound → Type 0
CheckSays t (Ok _) = Full (length t) × Agree t
CheckSays t (Err (Unsound.Lie p)) = Full (length t) × LowestLie t p
CheckSays t (Err Unsound.NotFull) = Full (length t) → ⊥
