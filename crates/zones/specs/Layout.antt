-- Where the machines' words lie: t are the words of the configuration's table, and z those of the machines. Assumes nothing.
use Rattle.std.specs.Prelude.{◌≡◌, List, ℕ, ◌+◌, ◌-◌, ◌*◌, ◌/◌, ◌≤◌, ◌<◌, max, length, get_or, Option, Some, None, Result, Ok, Err}
use Rattle.config_table.specs.declared.Unlisted.{Unlisted}
use Rattle.config_view.specs.Table.{table_config}
use Rattle.machine.specs.declared.Reason.{Reason}
use Rattle.machine.specs.declared.Refusal.{Refusal}
use Rattle.machine.specs.declared.Which.{Which}
use Rattle.machine.specs.declared.Which.TheVariants.{Processors, Devices}
use Rattle.machine.specs.Step.{machine_of}
use Rattle.zones.specs.declared.Zone.{Zone}
use Rattle.zones.specs.declared.Located.{Located}
use Rattle.zones.specs.declared.NotLocated.{NotLocated}

-- why a machine is not found that the table does not list
abbrev pub unlisted : Unlisted → NotLocated
unlisted Unlisted.NoMachine = NotLocated.NoMachine
unlisted Unlisted.NoTable = NotLocated.Corrupt

-- and why its request is refused
abbrev pub not_located : NotLocated → Refusal
not_located NotLocated.NoMachine = Refusal.No Reason.NoMachine
not_located NotLocated.Corrupt = Refusal.Corrupt

-- how many words a machine has whose sets have so many slots
abbrev pub stride : ℕ → ℕ
stride slots = 3 + 8 * slots

-- how many slots each set of n machines has
unfoldable pub slots_in : List ℕ → ℕ → ℕ
slots_in z n = (length z / max 1 n - 3) / 8

-- where the words of machine m begin
unfoldable pub place_of : ℕ → ℕ → ℕ
place_of slots m = m * stride slots

-- where a set begins of the machine whose words begin at a place
abbrev pub set_at : ℕ → ℕ → Which → ℕ
set_at place slots Processors = place + 1
set_at place slots Devices = place + 2 + 4 * slots

-- the words are exactly those of n machines
pub record Shaped (z : List ℕ) (n : ℕ) : Type 0 where
  pub exact : length z ≡ n * stride (slots_in z n)

-- and each says of its machine that it is there or not
pub record Flagged (z : List ℕ) (n : ℕ) : Type 0 where
  pub shaped : Shaped z n
  pub flags : (m : ℕ) → m < n → get_or z (place_of (slots_in z n) m) 0 < 2

-- the words are those of n machines, and machine m's first word says whether it is there
pub record PresenceTold (z : List ℕ) (n m : ℕ) : Type 0 where
  pub shaped : Shaped z n
  pub flag : get_or z (place_of (slots_in z n) m) 0 < 2

-- for how many regions each set has room, if the words are those of n machines
abbrev pub ShapeSays : List ℕ → ℕ → Option ℕ → Type 0
ShapeSays z n (Some s) = Shaped z n × (s ≡ slots_in z n)
ShapeSays z n None = Shaped z n → ⊥

-- the zone is that of machine m of n
pub record IsZone (z : List ℕ) (n m : ℕ) (zone : Zone) : Type 0 where
  pub index : zone.index ≡ m
  pub machine : m < n
  pub shaped : Shaped z n
  pub slots : zone.slots ≡ slots_in z n
  pub place : zone.place ≡ place_of (slots_in z n) m
  pub inside : place_of (slots_in z n) m + stride (slots_in z n) ≤ length z

-- where machine m of n is, and whether it is there
abbrev pub LookSays : List ℕ → ℕ → ℕ → Result Located NotLocated → Type 0
LookSays z n m (Ok (Located.Here zone)) = IsZone z n m zone × (get_or z (place_of (slots_in z n) m) 0 ≡ 1)
LookSays z n m (Ok (Located.Away zone)) = IsZone z n m zone × (get_or z (place_of (slots_in z n) m) 0 ≡ 0)
LookSays z n m (Err NotLocated.NoMachine) = ⊥
LookSays z n m (Err NotLocated.Corrupt) = PresenceTold z n m → ⊥

-- the same of the machine that has a number
abbrev pub LocateSays : List ℕ → List ℕ → ℕ → Result Located NotLocated → Type 0
LocateSays t z number (Ok (Located.Here zone)) = (length t ≡ 8325) × LookSays z (table_config t).machines (machine_of (table_config t) number) (Ok (Located.Here zone))
LocateSays t z number (Ok (Located.Away zone)) = (length t ≡ 8325) × LookSays z (table_config t).machines (machine_of (table_config t) number) (Ok (Located.Away zone))
LocateSays t z number (Err NotLocated.NoMachine) = (length t ≡ 8325) × (machine_of (table_config t) number ≡ (table_config t).machines)
LocateSays t z number (Err NotLocated.Corrupt) =
    length t ≡ 8325 → (machine_of (table_config t) number < (table_config t).machines) × LookSays z (table_config t).machines (machine_of (table_config t) number) (Err NotLocated.Corrupt)
