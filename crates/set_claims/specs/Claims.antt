-- Whether there is a set at `at` in the words z, whatever they are, and whether a region may go in. Assumes nothing.
use Rattle.std.specs.Prelude.{◌≡◌, true, false, List, ℕ, ◌≤◌, ◌<◌, get_or, Result, Ok, Err}
use Rattle.address.specs.declared.Region.{Region}
use Rattle.address.specs.Regions.{Valid, ValiditySays}
use Rattle.set_model.specs.Sets.{meets, any}
use Rattle.set_slots.specs.Slots.{regions_in, Lies, Readable, UsedOk, SetOk}
use Rattle.set_claims.specs.declared.Bad.{Bad}
use Rattle.set_claims.specs.declared.NotInserted.{NotInserted}

-- the count is above the slots, or else a slot that it counts is not right: the set is not in order
pub record Broken (z : List ℕ) (at slots : ℕ) : Type 0 where
  pub lies : Lies z at slots
  pub wrong : get_or z at 0 ≤ slots → (i : ℕ) × (i < get_or z at 0) × (UsedOk z at i → ⊥)
  pub broken : SetOk z at slots → ⊥

-- why there is no set to work on; neither is said of one that lies within the words and is in order
abbrev pub BadSays : List ℕ → ℕ → ℕ → Bad → Type 0
BadSays z at slots Bad.NoSet = Lies z at slots → ⊥
BadSays z at slots Bad.Corrupt = Broken z at slots

-- how many regions the set has
abbrev pub SizeSays : List ℕ → ℕ → ℕ → Result ℕ Bad → Type 0
SizeSays z at slots (Ok n) = Readable z at slots × (n ≡ get_or z at 0)
SizeSays z at slots (Err why) = BadSays z at slots why

-- there is a set, r is valid, and no region of the set has a guest page of it
pub record Fitting (z : List ℕ) (at slots : ℕ) (r : Region) : Type 0 where
  pub readable : Readable z at slots
  pub valid : Valid r.guest r.host r.pages
  pub alone : any (meets r) (regions_in z at slots) ≡ false

-- the first reason why r does not go in
abbrev pub Refused : List ℕ → ℕ → ℕ → Region → NotInserted → Type 0
Refused z at slots r (NotInserted.Bad why) = BadSays z at slots why
Refused z at slots r (NotInserted.NotValid fault) = Readable z at slots × ValiditySays r.guest r.host r.pages (Err fault) × (Valid r.guest r.host r.pages → ⊥)
Refused z at slots r NotInserted.Overlap = Readable z at slots × Valid r.guest r.host r.pages × (any (meets r) (regions_in z at slots) ≡ true)
Refused z at slots r NotInserted.NoRoom = Fitting z at slots r × (get_or z at 0 ≡ slots)

-- whether r may go in, and to how many regions
abbrev pub MayInsertSays : List ℕ → ℕ → ℕ → Region → Result ℕ NotInserted → Type 0
MayInsertSays z at slots r (Ok n) = Fitting z at slots r × (n ≡ get_or z at 0) × (n < slots)
MayInsertSays z at slots r (Err why) = Refused z at slots r why
