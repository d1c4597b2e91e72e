-- What is answered of a configuration c: that its rules hold, or the first that is broken, with the place. Assumes nothing.
use Rattle.std.specs.Prelude.{◌≡◌, ℕ, Option, Some, None, Result, Ok, Err}
use Rattle.base.specs.Search.{Everywhere, First}
use Rattle.address.specs.declared.Fault.{Fault}
use Rattle.address.specs.Regions.{Valid, ValiditySays}
use Rattle.config_model.specs.Config.{Config}
use Rattle.config_model.specs.Rules.{Differ, IsValid, OffPool, Alone, Together, Clear, AllPairs, Rules}
use Rattle.config_pairs.specs.Pairs.{FirstClash}
use Rattle.config_pairs.specs.declared.Rule.{Rule}
use Rattle.config_rules.specs.declared.Reason.{Reason}

-- the rules hold up to the one that a name has, in their order
abbrev pub ToNumbers : Config → Type 0
ToNumbers c = Everywhere (Differ c) (λ m. c.machines) c.machines

abbrev pub ToValid : Config → Type 0
ToValid c = ToNumbers c × Everywhere (IsValid c) c.count c.machines

abbrev pub ToPoolValid : Config → Type 0
ToPoolValid c = ToValid c × Valid 0 c.pool.host c.pool.pages

abbrev pub ToAlone : Config → Type 0
ToAlone c = ToPoolValid c × AllPairs Alone c

abbrev pub ToTogether : Config → Type 0
ToTogether c = ToAlone c × AllPairs Together c

abbrev pub ToClear : Config → Type 0
ToClear c = ToTogether c × AllPairs Clear c

-- the first region that is not valid, and the first condition that it breaks
abbrev pub NotValidSays : Config → Option (ℕ × ℕ × Fault) → Type 0
NotValidSays c None = Everywhere (IsValid c) c.count c.machines
NotValidSays c (Some (m, i, f)) = First (IsValid c) c.count c.machines m i × ValiditySays (c.region m i).guest (c.region m i).host (c.region m i).pages (Err f)

-- the rules before the reason's hold, and the reason names the first place at which its own does not
abbrev pub WrongSays : Config → Reason → Type 0
WrongSays c (Reason.TooShort at) = ⊥
WrongSays c Reason.TooManyMachines = ⊥
WrongSays c (Reason.TooManyRegions m) = ⊥
WrongSays c (Reason.UnknownKind m i) = ⊥
WrongSays c (Reason.SameNumber m m') = First (Differ c) (λ k. c.machines) c.machines m m'
WrongSays c (Reason.NotValid m i f) =
    ToNumbers c × First (IsValid c) c.count c.machines m i × ValiditySays (c.region m i).guest (c.region m i).host (c.region m i).pages (Err f)
WrongSays c (Reason.PoolNotValid f) = ToValid c × ValiditySays 0 c.pool.host c.pool.pages (Err f)
WrongSays c (Reason.HostShared m i m' i') = ToPoolValid c × FirstClash Rule.Alone c m i m' i'
WrongSays c (Reason.NotCoinciding m i m' i') = ToAlone c × FirstClash Rule.Together c m i m' i' × (m ≡ m' → ⊥)
WrongSays c (Reason.OneMachine m i i') = ToAlone c × FirstClash Rule.Together c m i m i'
WrongSays c (Reason.GuestShared m i i') = ToTogether c × FirstClash Rule.Clear c m i m i'
WrongSays c (Reason.PoolShared m i) = ToClear c × First (OffPool c) c.count c.machines m i
WrongSays c (Reason.LeftOver at) = ⊥

abbrev pub JudgeSays : Config → Result (Unit {0}) Reason → Type 0
JudgeSays c (Ok _) = Rules c
JudgeSays c (Err r) = WrongSays c r
