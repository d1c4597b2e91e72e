-- What the exported looks say: that the look beneath could have answered something of which the result is the code, and what stands behind
-- the pointers its values. Assumes nothing.
use Rattle.std.specs.Prelude.{Bool, true, false, List, ℕ, ◌≤◌, ◌<◌, Result, Ok, Err}
use Rattle.address.specs.declared.Region.{Region}
use Rattle.region_words.specs.Words.{number_of}
use Rattle.codes.specs.Codes.{Valued, done, no_size, corrupt, no_table, no_machine, no_set, no_region, many_machines, many_slots}
use Rattle.config_table.specs.declared.NoTable.{NoTable}
use Rattle.config_table.specs.declared.Unlisted.{Unlisted}
use Rattle.config_table.specs.declared.NoRegion.{NoRegion}
use Rattle.config_table.specs.Holding.{MachinesSays, NumberSays, CountSays, RegionSays, PoolSays}
use Rattle.machine.specs.declared.Which.{Which}
use Rattle.machine_codes.specs.Codes.{which_of}
use Rattle.hv_looks.specs.declared.NotSeen.{NotSeen}
use Rattle.hv_looks.specs.declared.NoRegion as unseen
use Rattle.hv_looks.specs.Looks.{PresenceSays, SetSizeSays, SetRegionSays}
use Rattle.lending.specs.declared.Sizes.{Sizes}
use Rattle.lending.specs.declared.TooMany.{TooMany}
use Rattle.lending.specs.Lending.{AmountSays}

-- ---- what stands behind several pointers

-- the fields of a region, its kind by its number
pub record Fields : Type 0 where
  pub guest : ℕ
  pub host : ℕ
  pub pages : ℕ
  pub kind : ℕ

-- four fields as one value
abbrev pub fields : ℕ → ℕ → ℕ → ℕ → Fields
fields guest host pages kind = record { guest = guest; host = host; pages = pages; kind = kind }

-- those of a region
abbrev pub fields_of : Region → Fields
fields_of r = fields r.guest r.host r.pages (number_of r.kind)

-- where the allocator's frames begin, and how many they are
pub record Span : Type 0 where
  pub host : ℕ
  pub pages : ℕ

-- the two as one value
abbrev pub span : ℕ → ℕ → Span
span host pages = record { host = host; pages = pages }

-- five sizes as one value
abbrev pub sizes : ℕ → ℕ → ℕ → ℕ → ℕ → Sizes
sizes table zones tree owners words = record { table = table; zones = zones; tree = tree; owners = owners; words = words }

-- ---- the code and the value of each answer

-- 0 where there is an answer, and else the code of why not
abbrev pub result_code : {A E : Type 0} → (E → ℕ) → Result A E → ℕ
result_code code (Ok a) = done
result_code code (Err e) = code e

-- what is written of an answer, or what stood there
abbrev pub result_value : {A B E : Type 0} → (A → B) → Result A E → B → B
result_value value (Ok a) old = value a
result_value value (Err e) old = old

-- a number as it is
abbrev pub itself : ℕ → ℕ
itself n = n

-- why nothing is said of a table
abbrev pub no_table_code : NoTable → ℕ
no_table_code e = no_table

-- why nothing is said of a machine of the table
abbrev pub unlisted_code : Unlisted → ℕ
unlisted_code Unlisted.NoMachine = no_machine
unlisted_code Unlisted.NoTable = no_table

-- why a region of the table is not found
abbrev pub no_region_code : NoRegion → ℕ
no_region_code NoRegion.NoRegion = no_region
no_region_code NoRegion.NoMachine = no_machine
no_region_code NoRegion.NoTable = no_table

-- the allocator's region: its host pages
abbrev pub span_of : Region → Span
span_of r = span r.host r.pages

-- 1 where a machine is there and 0 where not
abbrev pub there_value : Bool → ℕ
there_value true = 1
there_value false = 0

-- why a machine's words say nothing of it
abbrev pub not_seen_code : NotSeen → ℕ
not_seen_code NotSeen.NoMachine = no_machine
not_seen_code NotSeen.NoTable = no_table
not_seen_code NotSeen.Corrupt = corrupt

-- why they have no such region
abbrev pub unseen_code : unseen.NoRegion → ℕ
unseen_code unseen.NoRegion.NoRegion = no_region
unseen_code unseen.NoRegion.NoMachine = no_machine
unseen_code unseen.NoRegion.NoTable = no_table
unseen_code unseen.NoRegion.Corrupt = corrupt

-- of how much to lend
abbrev pub amount_code : Result Sizes TooMany → ℕ
amount_code (Ok s) = done
amount_code (Err TooMany.Machines) = many_machines
amount_code (Err TooMany.Slots) = many_slots
amount_code (Err TooMany.Frames) = no_size

-- the sizes to lend, or what stood there
abbrev pub amount_sizes : Result Sizes TooMany → Sizes → Sizes
amount_sizes (Ok s) old = s
amount_sizes (Err TooMany.Machines) old = old
amount_sizes (Err TooMany.Slots) old = old
amount_sizes (Err TooMany.Frames) old = old

-- ---- a set by its number

-- an answer about a set that is named by a number, or that no set has the number
pub data OfSet (A : Type 0) : Type 0 where
  NoSet : OfSet A
  Answered : A → OfSet A

-- what is said of the set with the number
abbrev pub OfSetSays : {A : Type 0} → ℕ → (Which → A → Type 0) → OfSet A → Type 0
OfSetSays which Says OfSet.NoSet = 1 < which
OfSetSays which Says (OfSet.Answered a) = (which ≤ 1) × Says (which_of which) a

-- its code
abbrev pub of_set_code : {A : Type 0} → (A → ℕ) → OfSet A → ℕ
of_set_code code OfSet.NoSet = no_set
of_set_code code (OfSet.Answered a) = code a

-- its value, or what stood there
abbrev pub of_set_value : {A B : Type 0} → (A → B → B) → OfSet A → B → B
of_set_value value OfSet.NoSet old = old
of_set_value value (OfSet.Answered a) old = value a old

-- ---- the functions: old and new stand behind the pointers before and after, and r is the result

-- how many machines the configuration has
abbrev pub MachinesCode : List ℕ → ℕ → ℕ → ℕ → Type 0
MachinesCode t old new r = Valued (MachinesSays t) (result_code no_table_code) (result_value itself) old new r

-- the number of the machine at a place
abbrev pub NumberCode : List ℕ → ℕ → ℕ → ℕ → ℕ → Type 0
NumberCode t place old new r = Valued (NumberSays t place) (result_code unlisted_code) (result_value itself) old new r

-- how many regions it is given
abbrev pub CountCode : List ℕ → ℕ → ℕ → ℕ → ℕ → Type 0
CountCode t place old new r = Valued (CountSays t place) (result_code unlisted_code) (result_value itself) old new r

-- its region i
abbrev pub RegionCode : List ℕ → ℕ → ℕ → Fields → Fields → ℕ → Type 0
RegionCode t place i old new r = Valued (RegionSays t place i) (result_code no_region_code) (result_value fields_of) old new r

-- the allocator's region
abbrev pub PoolCode : List ℕ → Span → Span → ℕ → Type 0
PoolCode t old new r = Valued (PoolSays t) (result_code no_table_code) (result_value span_of) old new r

-- whether the machine that has a number is there
abbrev pub ThereCode : List ℕ → List ℕ → ℕ → ℕ → ℕ → ℕ → Type 0
ThereCode t z number old new r = Valued (PresenceSays t z number) (result_code not_seen_code) (result_value there_value) old new r

-- how many regions a set of it has
abbrev pub SetSizeCode : List ℕ → List ℕ → ℕ → ℕ → ℕ → ℕ → ℕ → Type 0
SetSizeCode t z number which old new r = Valued (OfSetSays which (λ w. SetSizeSays t z number w)) (of_set_code (result_code not_seen_code)) (of_set_value (result_value itself)) old new r

-- region i of a set of it
abbrev pub SetRegionCode : List ℕ → List ℕ → ℕ → ℕ → ℕ → Fields → Fields → ℕ → Type 0
SetRegionCode t z number which i old new r = Valued (OfSetSays which (λ w. SetRegionSays t z number w i)) (of_set_code (result_code unseen_code)) (of_set_value (result_value fields_of)) old new r

-- how much to lend
abbrev pub LendCode : ℕ → ℕ → ℕ → Sizes → Sizes → ℕ → Type 0
LendCode machines slots frames old new r = Valued (AmountSays machines slots frames) amount_code amount_sizes old new r
