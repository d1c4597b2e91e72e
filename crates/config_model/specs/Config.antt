-- A configuration: which machines there are, which regions each is given, and the allocator's region. `ConfigOk` says when it is right.
-- Nothing here speaks of bytes. Assumes nothing.
use Rattle.std.specs.Prelude.{◌≡◌, ℕ, ◌<◌}
use Rattle.address.specs.declared.Kind.{Kind}
use Rattle.address.specs.declared.Region.{Region}
use Rattle.address.specs.Pages.{Share}
use Rattle.address.specs.Regions.{Valid}

-- a configuration. Machines and the regions of each are counted from 0; what the functions say beyond the counts means nothing
pub record Config : Type 0 where
  pub machines : ℕ
  -- the number by which a machine is known
  pub number : ℕ → ℕ
  -- how many regions a machine is given, and which
  pub count : ℕ → ℕ
  pub region : ℕ → ℕ → Region
  -- the region of the allocator's frames, of which the guest start means nothing
  pub pool : Region

-- machine m has a region i
pub record Has (c : Config) (m i : ℕ) : Type 0 where
  pub machine : m < c.machines
  pub region : i < c.count m

-- two regions have a host page in common
abbrev pub HostMeets : Region → Region → Type 0
HostMeets a b = Share a.host a.pages b.host b.pages

-- two regions have a guest page in common
abbrev pub GuestMeets : Region → Region → Type 0
GuestMeets a b = Share a.guest a.pages b.guest b.pages

-- a region a of machine m and a region b of machine m' may have host pages in common: they are shared regions of two machines, and coincide
pub record MayShare (m m' : ℕ) (a b : Region) : Type 0 where
  pub shared : a.kind ≡ Kind.Shared
  pub shared' : b.kind ≡ Kind.Shared
  pub two : m ≡ m' → ⊥
  pub host : a.host ≡ b.host
  pub pages : a.pages ≡ b.pages

-- a configuration is right
pub record ConfigOk (c : Config) : Type 0 where
  -- no two machines have one number
  pub numbers : (m m' : ℕ) → m < c.machines → m' < c.machines → c.number m ≡ c.number m' → m ≡ m'
  -- every region is valid, and the allocator's is as if its guest start were 0
  pub valid : (m i : ℕ) → Has c m i → Valid (c.region m i).guest (c.region m i).host (c.region m i).pages
  pub pool_valid : Valid 0 c.pool.host c.pool.pages
  -- two regions that have a host page in common may
  pub hosts : (m i m' i' : ℕ) → Has c m i → Has c m' i' → (m ≡ m' → i ≡ i' → ⊥) → HostMeets (c.region m i) (c.region m' i')
      → MayShare m m' (c.region m i) (c.region m' i')
  -- two regions of one machine have no guest page in common
  pub guests : (m i i' : ℕ) → Has c m i → Has c m i' → (i ≡ i' → ⊥) → GuestMeets (c.region m i) (c.region m i') → ⊥
  -- no region has a page of the allocator's
  pub pool_alone : (m i : ℕ) → Has c m i → HostMeets c.pool (c.region m i) → ⊥

-- two configurations are the same as far as their counts reach
pub record Same (c d : Config) : Type 0 where
  pub machines : c.machines ≡ d.machines
  pub number : (m : ℕ) → m < c.machines → c.number m ≡ d.number m
  pub count : (m : ℕ) → m < c.machines → c.count m ≡ d.count m
  pub region : (m i : ℕ) → m < c.machines → i < c.count m → c.region m i ≡ d.region m i
  pub pool_host : c.pool.host ≡ d.pool.host
  pub pool_pages : c.pool.pages ≡ d.pool.pages
