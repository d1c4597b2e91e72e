-- The words of a set of regions: a count at `at`, and behind it slots of four words each. Assumes nothing.
use Rattle.std.specs.Prelude.{◌≡◌, Bool, true, false, List, ℕ, ◌+◌, ◌*◌, ◌≤◌, ◌<◌, min, ltb, length, get_or}
use Rattle.base.specs.Ranges.{Only}
use Rattle.address.specs.declared.Region.{Region}
use Rattle.address.specs.Regions.{Valid}
use Rattle.region_words.specs.Words.{nothing, region_of, HasRegion}
use Rattle.set_model.specs.Sets.{table, Ordered}

-- the region in slot i
abbrev pub slot : List ℕ → ℕ → ℕ → Region
slot z at i = region_of z (at + 1 + 4 * i)

-- the regions of the set. A count above the slots reads as the slots, so that no word behind them is read
unfoldable pub regions_in : List ℕ → ℕ → ℕ → List Region
regions_in z at slots = table (slot z at) (min slots (get_or z at 0))

-- the words of a set with so many slots are words of z
abbrev pub Lies : List ℕ → ℕ → ℕ → Type 0
Lies z at slots = at + 1 + 4 * slots ≤ length z

-- the set lies within z, and its count is not above its slots
pub record Readable (z : List ℕ) (at slots : ℕ) : Type 0 where
  pub lies : Lies z at slots
  pub few : get_or z at 0 ≤ slots

-- ---- one slot

-- the region in slot i does not pass the test
abbrev pub Fails : (Region → Bool) → List ℕ → ℕ → ℕ → Type 0
Fails t z at i = t (slot z at i) ≡ false

-- slot i is the first of the first n whose region passes a test, or n, where `Says r b` is that the test can answer b of a region r
pub record FirstPassing (Says : Region → Bool → Type 0) (z : List ℕ) (at n i : ℕ) : Type 0 where
  pub high : i ≤ n
  pub before : (k : ℕ) → k < i → Says (slot z at k) false
  pub passes : i < n → Says (slot z at i) true

-- r starts above the guest address
abbrev pub above : ℕ → Region → Bool
above guest r = ltb guest r.guest

-- slot i holds nothing: its words are 0
abbrev pub Empty : List ℕ → ℕ → ℕ → Type 0
Empty z at i = HasRegion z (at + 1 + 4 * i) nothing

-- r starts where the region before it ends, or above
abbrev pub Follows : Region → Region → Type 0
Follows before r = before.guest + 4096 * before.pages ≤ r.guest

-- slot i holds the words of a valid region that follows the one before it
pub record UsedOk (z : List ℕ) (at i : ℕ) : Type 0 where
  pub kind : get_or z (at + 1 + 4 * i + 3) 0 ≤ 2
  pub valid : Valid (slot z at i).guest (slot z at i).host (slot z at i).pages
  pub follows : (j : ℕ) → j + 1 ≡ i → Follows (slot z at j) (slot z at i)

-- ---- the set

-- the set is in order, and all its words are determined by its regions
pub record SetOk (z : List ℕ) (at slots : ℕ) : Type 0 where
  pub few : get_or z at 0 ≤ slots
  pub kinds : (i : ℕ) → i < get_or z at 0 → get_or z (at + 1 + 4 * i + 3) 0 ≤ 2
  pub clear : (i : ℕ) → get_or z at 0 ≤ i → i < slots → Empty z at i
  pub ordered : Ordered (regions_in z at slots)

-- the set became one of the regions l, no other word changed, and a set in order stayed one
pub record Became (z : List ℕ) (at slots : ℕ) (l : List Region) (z' : List ℕ) : Type 0 where
  pub only : Only z at (at + 1 + 4 * slots) z'
  pub is : regions_in z' at slots ≡ l
  pub ok : SetOk z at slots → SetOk z' at slots
