-- When a set of machine m is right: c is the configuration, and z are the machines' words, in which the set lies at `at`. Assumes nothing.
use Rattle.std.specs.Prelude.{◌≡◌, List, [], ℕ}
use Rattle.config_model.specs.Config.{Config}
use Rattle.set_model.specs.Sets.{In, Every, table}
use Rattle.set_slots.specs.Slots.{slot, regions_in, SetOk}
use Rattle.machine.specs.declared.Which.{Which}
use Rattle.machine.specs.Good.{given}

-- the configuration gives machine m the region in slot i
abbrev pub IsGiven : Config → ℕ → List ℕ → ℕ → ℕ → Type 0
IsGiven c m z at i = In (slot z at i) (table (c.region m) (c.count m))

-- the set is in order, has only regions that the machine is given, and is empty where the machine is not there
pub record SetRight (c : Config) (z : List ℕ) (m : ℕ) (w : Which) (flag at slots : ℕ) : Type 0 where
  pub ok : SetOk z at slots
  pub whole : Every (given c m w) (regions_in z at slots)
  pub empty : (flag ≡ 1 → ⊥) → regions_in z at slots ≡ []
