-- What is answered of the words t of a table, whatever they are: `table_config` is the configuration in any words. Assumes nothing.
use Rattle.std.specs.Prelude.{◌≡◌, List, ℕ, ◌≤◌, ◌<◌, length, Option, Some, None, Result, Ok, Err}
use Rattle.address.specs.declared.Region.{Region}
use Rattle.config_model.specs.Config.{Config}
use Rattle.config_view.specs.Table.{table_config}
use Rattle.config_table.specs.declared.NoTable.{NoTable}
use Rattle.config_table.specs.declared.Unlisted.{Unlisted}
use Rattle.config_table.specs.declared.NoRegion.{NoRegion}

-- why a region is not found where nothing is said of the machine
abbrev pub unlisted : Unlisted → NoRegion
unlisted Unlisted.NoMachine = NoRegion.NoMachine
unlisted Unlisted.NoTable = NoRegion.NoTable

-- the number of machines
abbrev pub MachinesSays : List ℕ → Result ℕ NoTable → Type 0
MachinesSays t (Ok n) = (length t ≡ 8325) × (n ≡ (table_config t).machines)
MachinesSays t (Err e) = length t ≡ 8325 → ⊥

-- m is the first machine that has a number
pub record HasNumber (c : Config) (number m : ℕ) : Type 0 where
  pub machine : m < c.machines
  pub is : c.number m ≡ number
  pub first : (k : ℕ) → k < m → c.number k ≡ number → ⊥

-- the machine with a number
abbrev pub MachineSays : List ℕ → ℕ → Result ℕ Unlisted → Type 0
MachineSays t number (Ok m) = (length t ≡ 8325) × HasNumber (table_config t) number m
MachineSays t number (Err Unlisted.NoMachine) = (length t ≡ 8325) × ((k : ℕ) → k < (table_config t).machines → (table_config t).number k ≡ number → ⊥)
MachineSays t number (Err Unlisted.NoTable) = length t ≡ 8325 → ⊥

-- the number of machine m
abbrev pub NumberSays : List ℕ → ℕ → Result ℕ Unlisted → Type 0
NumberSays t m (Ok n) = (length t ≡ 8325) × (m < (table_config t).machines) × (n ≡ (table_config t).number m)
NumberSays t m (Err Unlisted.NoMachine) = (length t ≡ 8325) × ((table_config t).machines ≤ m)
NumberSays t m (Err Unlisted.NoTable) = length t ≡ 8325 → ⊥

-- how many regions machine m has
abbrev pub CountSays : List ℕ → ℕ → Result ℕ Unlisted → Type 0
CountSays t m (Ok n) = (length t ≡ 8325) × (m < (table_config t).machines) × (n ≡ (table_config t).count m)
CountSays t m (Err Unlisted.NoMachine) = (length t ≡ 8325) × ((table_config t).machines ≤ m)
CountSays t m (Err Unlisted.NoTable) = length t ≡ 8325 → ⊥

-- machine m has a region i, and it is r
pub record IsRegion (c : Config) (m i : ℕ) (r : Region) : Type 0 where
  pub machine : m < c.machines
  pub region : i < c.count m
  pub is : r ≡ c.region m i

-- region i of machine m
abbrev pub RegionSays : List ℕ → ℕ → ℕ → Result Region NoRegion → Type 0
RegionSays t m i (Ok r) = (length t ≡ 8325) × IsRegion (table_config t) m i r
RegionSays t m i (Err NoRegion.NoMachine) = (length t ≡ 8325) × ((table_config t).machines ≤ m)
RegionSays t m i (Err NoRegion.NoRegion) = (length t ≡ 8325) × (m < (table_config t).machines) × ((table_config t).count m ≤ i)
RegionSays t m i (Err NoRegion.NoTable) = length t ≡ 8325 → ⊥

-- the allocator's region
abbrev pub PoolSays : List ℕ → Result Region NoTable → Type 0
PoolSays t (Ok r) = (length t ≡ 8325) × (r ≡ (table_config t).pool)
PoolSays t (Err e) = length t ≡ 8325 → ⊥

-- region i of machine m is r, and no region before it
pub record FirstGiven (c : Config) (m : ℕ) (r : Region) (i : ℕ) : Type 0 where
  pub is : IsRegion c m i r
  pub first : (k : ℕ) → k < i → r ≡ c.region m k → ⊥

-- whether machine m is given r, and as which region
abbrev pub GivenSays : List ℕ → ℕ → Region → Result (Option ℕ) Unlisted → Type 0
GivenSays t m r (Ok (Some i)) = (length t ≡ 8325) × FirstGiven (table_config t) m r i
GivenSays t m r (Ok None) = (length t ≡ 8325) × (m < (table_config t).machines) × ((k : ℕ) → k < (table_config t).count m → r ≡ (table_config t).region m k → ⊥)
GivenSays t m r (Err Unlisted.NoMachine) = (length t ≡ 8325) × ((table_config t).machines ≤ m)
GivenSays t m r (Err Unlisted.NoTable) = length t ≡ 8325 → ⊥
