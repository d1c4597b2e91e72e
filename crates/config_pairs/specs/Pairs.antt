-- The three rules on two regions, and the first two regions of which one does not hold. Assumes nothing.
use Rattle.std.specs.Prelude.{Bool, true, false, ℕ, ◌<◌, Option, Some, None}
use Rattle.base.specs.Search.{Everywhere, First}
use Rattle.address.specs.declared.Region.{Region}
use Rattle.config_model.specs.Config.{Config}
use Rattle.config_model.specs.Rules.{Alone, Together, Clear, WithAll, AllPairs}
use Rattle.config_pairs.specs.declared.Rule.{Rule}

-- a rule holds of a, region i of machine m, and b, region i' of machine m'
abbrev pub Holds : Rule → ℕ → ℕ → Region → ℕ → ℕ → Region → Type 0
Holds Rule.Alone m i a m' i' b = Alone m i a m' i' b
Holds Rule.Together m i a m' i' b = Together m i a m' i' b
Holds Rule.Clear m i a m' i' b = Clear m i a m' i' b

-- there can be a region i of machine m
abbrev pub Small : ℕ → ℕ → Type 0
Small m i = (m < 64) × (i < 32)

-- true says that the rule holds of a and every region; false says nothing
abbrev pub SparesSays : Rule → Region → Bool → Type 0
SparesSays rule a true = (m i m' i' : ℕ) (b : Region) → Holds rule m i a m' i' b
SparesSays rule a false = Unit {0}

-- true says that the rule holds of every region of machine m and every region of machine m'; false says nothing
abbrev pub ApartSays : Rule → ℕ → ℕ → Bool → Type 0
ApartSays rule m m' true = (i i' : ℕ) (a b : Region) → i' < 32 → Holds rule m i a m' i' b
ApartSays rule m m' false = Unit {0}

-- i is the first number below n at which P fails
pub record FirstIn (P : ℕ → Type 0) (n i : ℕ) : Type 0 where
  pub place : i < n
  pub fails : P i → ⊥
  pub before : (k : ℕ) → k < i → P k

-- the first number below n at which P fails, if there is one
abbrev pub FoundSays : (ℕ → Type 0) → ℕ → Option ℕ → Type 0
FoundSays P n None = (k : ℕ) → k < n → P k
FoundSays P n (Some i) = FirstIn P n i

-- the first place at which P fails, if there is one
abbrev pub SpotSays : (ℕ → ℕ → Type 0) → (ℕ → ℕ) → ℕ → Option (ℕ × ℕ) → Type 0
SpotSays P width n None = Everywhere P width n
SpotSays P width n (Some (m, i)) = First P width n m i

-- a rule holds of region i of machine m and region i' of machine m' of c
abbrev pub Between : Rule → Config → ℕ → ℕ → ℕ → ℕ → Type 0
Between rule c m i m' i' = Holds rule m i (c.region m i) m' i' (c.region m' i')

-- region i of machine m is the first of that machine with which some region may not stand, and region i' of machine m' the first such
pub record FirstHit (rule : Rule) (c : Config) (m i m' i' : ℕ) : Type 0 where
  pub region : i < c.count m
  pub before : (k : ℕ) → k < i → WithAll (Holds rule) c m k
  pub other : First (Between rule c m i) c.count c.machines m' i'

abbrev pub HitSays : Rule → Config → ℕ → Option (ℕ × ℕ × ℕ) → Type 0
HitSays rule c m None = (i : ℕ) → i < c.count m → WithAll (Holds rule) c m i
HitSays rule c m (Some (i, m', i')) = FirstHit rule c m i m' i'

-- region i of machine m is the first of all with which some region may not stand, and region i' of machine m' the first such
pub record FirstClash (rule : Rule) (c : Config) (m i m' i' : ℕ) : Type 0 where
  pub first : First (WithAll (Holds rule) c) c.count c.machines m i
  pub other : First (Between rule c m i) c.count c.machines m' i'

abbrev pub ClashSays : Rule → Config → Option (ℕ × ℕ × ℕ × ℕ) → Type 0
ClashSays rule c None = AllPairs (Holds rule) c
ClashSays rule c (Some (m, i, m', i')) = FirstClash rule c m i m' i'
