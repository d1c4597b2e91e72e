-- What the searches for one frame answer. Assumes nothing.
use Rattle.std.specs.Prelude.{◌≡◌, List, ℕ, ◌<◌, ◌≤◌, get_or, Result, Ok, Err}
use Rattle.bitmap_tree.specs.Tree.{free, cap, Agree}
use Rattle.bitmap_search.specs.declared.Lie.{Lie}
use Rattle.bitmap_search.specs.declared.Missed.{Missed}
use Rattle.bitmap_search.specs.declared.Missed.TheVariants.{Nothing, Corrupt}
use Rattle.bitmap_search.specs.Heights.{Under}

abbrev pub DownSays : List ℕ → ℕ → Result ℕ Lie → Type 0
DownSays t n (Ok r) = Under t n r
DownSays t n (Err _) = Agree t → ⊥

-- frame f is free and not before k; where the summaries agree, it is the first such
pub record IsNext (t : List ℕ) (k f : ℕ) : Type 0 where
  pub within : f < cap t
  pub from : k ≤ f
  pub is : free t f ≡ 1
  pub first : Agree t → (m : ℕ) → k ≤ m → m < f → free t m ≡ 0

-- every frame from k on is taken
abbrev pub NoneFrom : List ℕ → ℕ → Type 0
NoneFrom t k = (m : ℕ) → k ≤ m → m < cap t → free t m ≡ 0

-- where nothing is found, the root is 0
abbrev pub LowestSays : List ℕ → Result ℕ Missed → Type 0
LowestSays t (Ok f) = IsNext t 0 f
LowestSays t (Err Nothing) = (get_or t 0 0 ≡ 0) × (Agree t → NoneFrom t 0)
LowestSays t (Err Corrupt) = Agree t → ⊥

abbrev pub NextSays : List ℕ → ℕ → Result ℕ Missed → Type 0
NextSays t k (Ok f) = IsNext t k f
NextSays t k (Err Nothing) = Agree t → NoneFrom t k
NextSays t k (Err Corrupt) = Agree t → ⊥
