-- How the set at `at` in the words z becomes that in z', whatever the words are. Every refusal leaves every word. Assumes nothing.
use Rattle.std.specs.Prelude.{◌≡◌, Bool, true, false, List, [], ℕ, ◌+◌, ◌*◌, ◌<◌, get_or, Result, Ok, Err}
use Rattle.base.specs.Ranges.{Only}
use Rattle.address.specs.declared.Region.{Region}
use Rattle.set_model.specs.Sets.{same, starts, any, find, enter, without, MapsMore, MapsLess}
use Rattle.set_slots.specs.Slots.{regions_in, Lies, Readable, Empty, SetOk, Became}
use Rattle.set_claims.specs.Claims.{BadSays, Fitting, Refused}
use Rattle.set_claims.specs.declared.NotInserted.{NotInserted}
use Rattle.memory_set_changes.specs.declared.NotRemoved.{NotRemoved}
use Rattle.memory_set_changes.specs.declared.NoSet.{NoSet}

-- ---- a region goes in

-- r went in before the first region that starts above it, and the set maps its pages besides what it did
pub record WentIn (z : List ℕ) (at slots : ℕ) (r : Region) (z' : List ℕ) : Type 0 where
  pub fitting : Fitting z at slots r
  pub room : get_or z at 0 < slots
  pub became : Became z at slots (enter r (regions_in z at slots)) z'
  pub maps : MapsMore (regions_in z at slots) r (enter r (regions_in z at slots))

-- whether r went in
abbrev pub InsertSays : List ℕ → ℕ → ℕ → Region → List ℕ → Result (Unit {0}) NotInserted → Type 0
InsertSays z at slots r z' (Ok _) = WentIn z at slots r z'
InsertSays z at slots r z' (Err why) = (z' ≡ z) × Refused z at slots r why

-- ---- a region goes out

-- r, the first region that passes the test, went out, and a set in order maps no page of it any more
pub record WentOut (t : Region → Bool) (z : List ℕ) (at slots : ℕ) (r : Region) (z' : List ℕ) : Type 0 where
  pub readable : Readable z at slots
  pub some : any t (regions_in z at slots) ≡ true
  pub is : r ≡ find t (regions_in z at slots)
  pub became : Became z at slots (without t (regions_in z at slots)) z'
  pub maps : SetOk z at slots → MapsLess (regions_in z at slots) r (without t (regions_in z at slots))

-- whether the region that starts at a guest address went out, and which it was
abbrev pub TakeSays : List ℕ → ℕ → ℕ → ℕ → List ℕ → Result Region NotRemoved → Type 0
TakeSays z at slots guest z' (Ok r) = WentOut (starts guest) z at slots r z'
TakeSays z at slots guest z' (Err NotRemoved.NotThere) = (z' ≡ z) × Readable z at slots × (any (starts guest) (regions_in z at slots) ≡ false)
TakeSays z at slots guest z' (Err (NotRemoved.Bad why)) = (z' ≡ z) × BadSays z at slots why

-- whether r went out, the same in every field
abbrev pub RemoveSays : List ℕ → ℕ → ℕ → Region → List ℕ → Result (Unit {0}) NotRemoved → Type 0
RemoveSays z at slots r z' (Ok _) = WentOut (same r) z at slots r z'
RemoveSays z at slots r z' (Err NotRemoved.NotThere) = (z' ≡ z) × Readable z at slots × (any (same r) (regions_in z at slots) ≡ false)
RemoveSays z at slots r z' (Err (NotRemoved.Bad why)) = (z' ≡ z) × BadSays z at slots why

-- ---- all regions go out

-- there is a set in order of no region: its count and all its slots are 0, and no other word changed
pub record Emptied (z : List ℕ) (at slots : ℕ) (z' : List ℕ) : Type 0 where
  pub lies : Lies z at slots
  pub only : Only z at (at + 1 + 4 * slots) z'
  pub count : get_or z' at 0 ≡ 0
  pub clear : (i : ℕ) → i < slots → Empty z' at i
  pub is : regions_in z' at slots ≡ []
  pub ok : SetOk z' at slots

-- whether a set was made
abbrev pub ClearSays : List ℕ → ℕ → ℕ → List ℕ → Result (Unit {0}) NoSet → Type 0
ClearSays z at slots z' (Ok _) = Emptied z at slots z'
ClearSays z at slots z' (Err _) = (z' ≡ z) × (Lies z at slots → ⊥)
