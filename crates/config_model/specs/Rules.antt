-- The rules on a configuration one by one, in the order in which they are tried, each as a statement on every place, so that the first
-- place at which it fails is the answer. `proofs/Laws.antt` shows that together they are `ConfigOk`. Assumes nothing.
use Rattle.std.specs.Prelude.{◌≡◌, ℕ, ◌+◌, ◌*◌, ◌<◌}
use Rattle.base.specs.Search.{Everywhere}
use Rattle.address.specs.declared.Kind.{Kind}
use Rattle.address.specs.declared.Region.{Region}
use Rattle.address.specs.Regions.{Valid}
use Rattle.config_model.specs.Config.{Config, HostMeets, GuestMeets, MayShare}

-- region i of machine m stands before region i' of machine m'. No machine has more than 32 regions
abbrev pub Earlier : ℕ → ℕ → ℕ → ℕ → Type 0
Earlier m i m' i' = 32 * m + i < 32 * m' + i'

-- machines m and m' differ in their numbers, where m stands before m'
abbrev pub Differ : Config → ℕ → ℕ → Type 0
Differ c m m' = m < m' → c.number m ≡ c.number m' → ⊥

-- region i of machine m is valid
abbrev pub IsValid : Config → ℕ → ℕ → Type 0
IsValid c m i = Valid (c.region m i).guest (c.region m i).host (c.region m i).pages

-- region i of machine m has no page of the allocator's
abbrev pub OffPool : Config → ℕ → ℕ → Type 0
OffPool c m i = HostMeets c.pool (c.region m i) → ⊥

-- a, region i of machine m, is shared, or has no host page in common with b, region i' of machine m', which is another
abbrev pub Alone : ℕ → ℕ → Region → ℕ → ℕ → Region → Type 0
Alone m i a m' i' b = (a.kind ≡ Kind.Shared → ⊥) → (m ≡ m' → i ≡ i' → ⊥) → HostMeets a b → ⊥

-- two shared regions, of which a stands before b, that have a host page in common may
abbrev pub Together : ℕ → ℕ → Region → ℕ → ℕ → Region → Type 0
Together m i a m' i' b = a.kind ≡ Kind.Shared → b.kind ≡ Kind.Shared → Earlier m i m' i' → HostMeets a b → MayShare m m' a b

-- two regions of one machine, of which a stands before b, have no guest page in common
abbrev pub Clear : ℕ → ℕ → Region → ℕ → ℕ → Region → Type 0
Clear m i a m' i' b = m ≡ m' → i < i' → GuestMeets a b → ⊥

-- a rule on two regions holds of region i of machine m and every region
abbrev pub WithAll : (ℕ → ℕ → Region → ℕ → ℕ → Region → Type 0) → Config → ℕ → ℕ → Type 0
WithAll R c m i = Everywhere (λ m' i'. R m i (c.region m i) m' i' (c.region m' i')) c.count c.machines

-- a rule on two regions holds of all
abbrev pub AllPairs : (ℕ → ℕ → Region → ℕ → ℕ → Region → Type 0) → Config → Type 0
AllPairs R c = Everywhere (WithAll R c) c.count c.machines

-- the rules hold, in their order
pub record Rules (c : Config) : Type 0 where
  pub numbers : Everywhere (Differ c) (λ m. c.machines) c.machines
  pub valid : Everywhere (IsValid c) c.count c.machines
  pub pool_valid : Valid 0 c.pool.host c.pool.pages
  pub alone : AllPairs Alone c
  pub together : AllPairs Together c
  pub clear : AllPairs Clear c
  pub off_pool : Everywhere (OffPool c) c.count c.machines
