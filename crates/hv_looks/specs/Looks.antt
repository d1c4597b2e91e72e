-- What is answered of a machine, whatever the words are: t are the words of the table, and z those of the machines. `present_in` and `set_in` are
-- what they mean to the abstract machine. Assumes nothing.
use Rattle.std.specs.Prelude.{◌≡◌, Bool, true, false, List, ℕ, ◌+◌, ◌≤◌, ◌<◌, length, get_or, Option, Some, None, Result, Ok, Err}
use Rattle.address.specs.declared.Region.{Region}
use Rattle.region_words.specs.Words.{nothing}
use Rattle.config_view.specs.Table.{table_config}
use Rattle.set_slots.specs.Slots.{Readable, SetOk}
use Rattle.machine.specs.declared.Which.{Which}
use Rattle.machine.specs.Step.{machine_of}
use Rattle.zones.specs.declared.Zone.{Zone}
use Rattle.zones.specs.Layout.{stride, slots_in, place_of, set_at, Shaped, PresenceTold}
use Rattle.hv_state.specs.Memory.{present_in, set_place, set_in}
use Rattle.hv_asker.specs.Asking.{Nobody}
use Rattle.zones.specs.declared.NotLocated.{NotLocated}
use Rattle.hv_looks.specs.declared.NotSeen.{NotSeen}
use Rattle.hv_looks.specs.declared.NoRegion.{NoRegion}
use Rattle.hv_looks.specs.declared.Spot.{Spot}

-- why a machine is not seen that is not located
abbrev pub not_seen : NotLocated → NotSeen
not_seen NotLocated.NoMachine = NotSeen.NoMachine
not_seen NotLocated.Corrupt = NotSeen.Corrupt

-- and why there is no region where it is not
abbrev pub no_region : NotSeen → NoRegion
no_region NotSeen.NoMachine = NoRegion.NoMachine
no_region NotSeen.NoTable = NoRegion.NoTable
no_region NotSeen.Corrupt = NoRegion.Corrupt

-- how many machines the configuration has
abbrev pub machines_in : List ℕ → ℕ
machines_in t = (table_config t).machines

-- the machine that has a number
abbrev pub named : List ℕ → ℕ → ℕ
named t number = machine_of (table_config t) number

-- a machine of the configuration has the number, and the machines' words are as many as they must be
pub record Known (t z : List ℕ) (number : ℕ) : Type 0 where
  pub long : length t ≡ 8325
  pub machine : named t number < machines_in t
  pub shaped : Shaped z (machines_in t)

-- the words are a table, and no machine of its configuration has the number
abbrev pub Unknown : List ℕ → ℕ → Type 0
Unknown t number = (length t ≡ 8325) × Nobody t number

-- a machine of the configuration has the number, and what must be right of its own words is not
pub record Corrupted (t : List ℕ) (number : ℕ) (Right : Type 0) : Type 0 where
  pub long : length t ≡ 8325
  pub machine : named t number < machines_in t
  pub wrong : Right → ⊥

-- ---- presence

-- the word that says whether the machine is there
abbrev pub flag_of : List ℕ → List ℕ → ℕ → ℕ
flag_of t z number = get_or z (place_of (slots_in z (machines_in t)) (named t number)) 0

-- whether the machine is there: its word is 1, or 0
abbrev pub PresenceSays : List ℕ → List ℕ → ℕ → Result Bool NotSeen → Type 0
PresenceSays t z number (Ok true) = Known t z number × (flag_of t z number ≡ 1) × (present_in z (machines_in t) (named t number) ≡ true)
PresenceSays t z number (Ok false) = Known t z number × (flag_of t z number ≡ 0) × (present_in z (machines_in t) (named t number) ≡ false)
PresenceSays t z number (Err NotSeen.NoMachine) = Unknown t number
PresenceSays t z number (Err NotSeen.NoTable) = length t ≡ 8325 → ⊥
PresenceSays t z number (Err NotSeen.Corrupt) = Corrupted t number (PresenceTold z (machines_in t) (named t number))

-- ---- sets

-- the regions of a set of the machine that has a number
abbrev pub regions_of : List ℕ → List ℕ → ℕ → Which → List Region
regions_of t z number w = set_in z (machines_in t) (named t number) w

-- the set lies within the words, and its count is not above its slots
abbrev pub HasSet : List ℕ → List ℕ → ℕ → Which → Type 0
HasSet t z number w = Readable z (set_place z (machines_in t) (named t number) w) (slots_in z (machines_in t))

-- the machine's first word says whether it is there, and the set is in order
abbrev pub SoundSet : List ℕ → List ℕ → ℕ → Which → Type 0
SoundSet t z number w = PresenceTold z (machines_in t) (named t number) × SetOk z (set_place z (machines_in t) (named t number) w) (slots_in z (machines_in t))

-- how many regions a set has
abbrev pub SetSizeSays : List ℕ → List ℕ → ℕ → Which → Result ℕ NotSeen → Type 0
SetSizeSays t z number w (Ok n) = Known t z number × HasSet t z number w × (n ≡ length (regions_of t z number w))
SetSizeSays t z number w (Err NotSeen.NoMachine) = Unknown t number
SetSizeSays t z number w (Err NotSeen.NoTable) = length t ≡ 8325 → ⊥
SetSizeSays t z number w (Err NotSeen.Corrupt) = Corrupted t number (SoundSet t z number w)

-- r is region i of a set
pub record IsRegion (t z : List ℕ) (number : ℕ) (w : Which) (i : ℕ) (r : Region) : Type 0 where
  pub known : Known t z number
  pub set : HasSet t z number w
  pub within : i < length (regions_of t z number w)
  pub is : r ≡ get_or (regions_of t z number w) i nothing

-- region i of a set
abbrev pub SetRegionSays : List ℕ → List ℕ → ℕ → Which → ℕ → Result Region NoRegion → Type 0
SetRegionSays t z number w i (Ok r) = IsRegion t z number w i r
SetRegionSays t z number w i (Err NoRegion.NoRegion) = Known t z number × HasSet t z number w × (length (regions_of t z number w) ≤ i)
SetRegionSays t z number w i (Err NoRegion.NoMachine) = Unknown t number
SetRegionSays t z number w i (Err NoRegion.NoTable) = length t ≡ 8325 → ⊥
SetRegionSays t z number w i (Err NoRegion.Corrupt) = Corrupted t number (SoundSet t z number w)

-- ---- beneath these: where a set lies

-- the spot is that of the set at `at` with so many slots
pub record IsSpot (z : List ℕ) (at slots : ℕ) (s : Spot) : Type 0 where
  pub begins : s.at ≡ at
  pub readable : Readable z at slots
  pub count : s.count ≡ get_or z at 0

-- the zone's words are words of z
abbrev pub Inside : List ℕ → Zone → Type 0
Inside z zone = zone.place + stride zone.slots ≤ length z

-- a set of the zone
abbrev pub SpotSays : List ℕ → Zone → Which → Option Spot → Type 0
SpotSays z zone w (Some s) = IsSpot z (set_at zone.place zone.slots w) zone.slots s
SpotSays z zone w None = SetOk z (set_at zone.place zone.slots w) zone.slots → ⊥

-- a set of the machine that has a number
abbrev pub PlaceSays : List ℕ → List ℕ → ℕ → Which → Result Spot NotSeen → Type 0
PlaceSays t z number w (Ok s) = Known t z number × IsSpot z (set_place z (machines_in t) (named t number) w) (slots_in z (machines_in t)) s
PlaceSays t z number w (Err NotSeen.NoMachine) = Unknown t number
PlaceSays t z number w (Err NotSeen.NoTable) = length t ≡ 8325 → ⊥
PlaceSays t z number w (Err NotSeen.Corrupt) = Corrupted t number (SoundSet t z number w)
