-- A set of regions as a list, and which guest page stands for which host page through it. Assumes nothing.
use Rattle.std.specs.Prelude.{◌≡◌, Bool, true, false, ◌⊎◌, List, [], ◌∷◌, ℕ, zero, suc, ◌+◌, ◌-◌, ◌*◌, ◌/◌, ◌≤◌, eqb, leb, ltb}
use Rattle.base.specs.Choices.{pick, both}
use Rattle.address.specs.declared.Region.{Region}
use Rattle.address.specs.Pages.{InPages}
use Rattle.address.specs.Regions.{Valid}
use Rattle.region_words.specs.Words.{number_of, nothing}

-- ---- tests of a region

-- the two are the same in every field
unfoldable pub same : Region → Region → Bool
same a b = both (eqb a.guest b.guest) (both (eqb a.host b.host) (both (eqb a.pages b.pages) (eqb (number_of a.kind) (number_of b.kind))))

-- the two have a guest page in common
unfoldable pub meets : Region → Region → Bool
meets a b = both (ltb 0 a.pages) (both (ltb 0 b.pages) (both (ltb (a.guest / 4096) (b.guest / 4096 + b.pages)) (ltb (b.guest / 4096) (a.guest / 4096 + a.pages))))

-- r starts at the guest address
abbrev pub starts : ℕ → Region → Bool
starts guest r = eqb r.guest guest

-- r has the guest address
unfoldable pub covers : ℕ → Region → Bool
covers addr r = both (leb r.guest addr) (ltb addr (r.guest + 4096 * r.pages))

-- ---- lists of regions

-- some region of the list passes the test
abbrev pub any : (Region → Bool) → List Region → Bool
any p [] = false
any p (x ∷ xs) = pick (p x) true (any p xs)

-- there is no region
abbrev pub none : List Region → Bool
none [] = true
none (x ∷ xs) = false

-- r is in the list
abbrev pub In : Region → List Region → Type 0
In r l = any (same r) l ≡ true

-- every region of the list passes the test
abbrev pub Every : (Region → Bool) → List Region → Type 0
Every p [] = Unit
Every p (x ∷ xs) = (p x ≡ true) × Every p xs

-- the first region that passes the test; `nothing` where none does
abbrev pub find : (Region → Bool) → List Region → Region
find p [] = nothing
find p (x ∷ xs) = pick (p x) x (find p xs)

-- the list with r, before the first that starts above it
abbrev pub enter : Region → List Region → List Region
enter r [] = r ∷ []
enter r (x ∷ xs) = pick (ltb r.guest x.guest) (r ∷ x ∷ xs) (x ∷ enter r xs)

-- the list without the first that passes the test
abbrev pub without : (Region → Bool) → List Region → List Region
without p [] = []
without p (x ∷ xs) = pick (p x) xs (x ∷ without p xs)

-- the values of a function at its first n places
abbrev pub table : {A : Type 0} → (ℕ → A) → ℕ → List A
table f zero = []
table f (suc n) = f zero ∷ table (λ i. f (suc i)) n

-- ---- sets

-- the first region of the list starts at the address or above it
abbrev pub From : ℕ → List Region → Type 0
From addr [] = Unit
From addr (x ∷ xs) = addr ≤ x.guest

-- every region is valid and ends where the next one starts or before: no two have a guest page in common
abbrev pub Ordered : List Region → Type 0
Ordered [] = Unit
Ordered (x ∷ xs) = Valid x.guest x.host x.pages × From (x.guest + 4096 * x.pages) xs × Ordered xs

-- ---- pages

-- guest page g stands for host page h in r
pub record RegionMaps (r : Region) (g h : ℕ) : Type 0 where
  pub inside : InPages r.guest r.pages g
  pub is : h ≡ r.host / 4096 + (g - r.guest / 4096)

-- guest page g stands for host page h in the set
pub record Maps (l : List Region) (g h : ℕ) : Type 0 where
  pub region : Region
  pub listed : In region l
  pub maps : RegionMaps region g h

-- l' maps what l does and the pages of r, and nothing else
pub record MapsMore (l : List Region) (r : Region) (l' : List Region) : Type 0 where
  pub old : (g h : ℕ) → Maps l g h → Maps l' g h
  pub new : (g h : ℕ) → RegionMaps r g h → Maps l' g h
  pub only : (g h : ℕ) → Maps l' g h → Maps l g h ⊎ RegionMaps r g h

-- l' maps what l does but the pages of r, and nothing else
pub record MapsLess (l : List Region) (r : Region) (l' : List Region) : Type 0 where
  pub kept : (g h : ℕ) → Maps l g h → (InPages r.guest r.pages g → ⊥) → Maps l' g h
  pub only : (g h : ℕ) → Maps l' g h → Maps l g h
  pub gone : (g h : ℕ) → Maps l' g h → InPages r.guest r.pages g → ⊥
