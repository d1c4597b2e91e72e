-- Slots that stand one higher or lower, and slots that hold nothing. Assumes nothing.
use Rattle.std.specs.Prelude.{◌≡◌, Bool, List, ℕ, ◌+◌, ◌*◌, ◌≤◌, ◌<◌, length, get_or}
use Rattle.base.specs.Ranges.{Only}
use Rattle.base.specs.Search.{Stops}
use Rattle.address.specs.declared.Region.{Region}
use Rattle.region_words.specs.Words.{HasRegion}
use Rattle.set_model.specs.Sets.{without}
use Rattle.set_slots.specs.Slots.{slot, regions_in, Readable, Fails, Empty, Became}

-- the slots from p up to n stand one higher, and no other word changed
pub record ShiftedUp (z : List ℕ) (at p n : ℕ) (z' : List ℕ) : Type 0 where
  pub only : Only z (at + 1 + 4 * (p + 1)) (at + 1 + 4 * (n + 1)) z'
  pub moved : (j : ℕ) → p ≤ j → j < n → HasRegion z' (at + 1 + 4 * (j + 1)) (slot z at j)

-- the slots behind p, up to the last, stand one lower, and no other word changed
pub record ShiftedDown (z : List ℕ) (at p last : ℕ) (z' : List ℕ) : Type 0 where
  pub only : Only z (at + 1 + 4 * p) (at + 1 + 4 * last) z'
  pub moved : (j : ℕ) → p ≤ j → j < last → HasRegion z' (at + 1 + 4 * j) (slot z at (j + 1))

-- the set is without the region in slot p, which is the first that passes whichever test
pub record LeftOut (z : List ℕ) (at p : ℕ) (z' : List ℕ) : Type 0 where
  pub long : length z' ≡ length z
  pub became : (slots : ℕ) (t : Region → Bool) → Readable z at slots → Stops (Fails t z at) 0 (get_or z at 0) p → Became z at slots (without t (regions_in z at slots)) z'

-- the first n slots hold nothing, and no other word changed
pub record Wiped (z : List ℕ) (at n : ℕ) (z' : List ℕ) : Type 0 where
  pub only : Only z (at + 1) (at + 1 + 4 * n) z'
  pub clear : (j : ℕ) → j < n → Empty z' at j
