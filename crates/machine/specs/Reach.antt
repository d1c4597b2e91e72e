-- Who reaches which host page. Assumes nothing.
use Rattle.std.specs.Prelude.{◌≡◌, ℕ, ◌+◌, ◌/◌}
use Rattle.address.specs.declared.Region.{Region}
use Rattle.address.specs.Pages.{InPages}
use Rattle.config_model.specs.Config.{Config, MayShare}
use Rattle.set_model.specs.Sets.{In}
use Rattle.owners.specs.States.{State.Owned}
use Rattle.machine.specs.declared.Which.{Which}
use Rattle.machine.specs.State.{Plan, State, address_of}

-- by what a machine reaches a page: a region of one of its sets, or a frame that it owns
pub data Way : Type 0 where
  ByRegion : Which → Region → Way
  ByFrame : ℕ → Way

-- machine m reaches the host page by a way
abbrev pub Reach : Plan → State → ℕ → ℕ → Way → Type 0
Reach p s m page (ByRegion w r) = In r (s.set m w) × InPages r.host r.pages page
Reach p s m page (ByFrame k) = (s.frame k ≡ Owned m) × (page ≡ address_of p k / 4096)

-- two machines reach a page by shared regions that the configuration lets coincide
abbrev pub SharedBy : ℕ → Way → ℕ → Way → Type 0
SharedBy m (ByRegion w r) m' (ByRegion w' r') = MayShare m m' r r'
SharedBy m (ByRegion w r) m' (ByFrame k) = ⊥
SharedBy m (ByFrame k) m' (ByRegion w r) = ⊥
SharedBy m (ByFrame k) m' (ByFrame k') = ⊥

-- the page is one of the allocator's region
abbrev pub OfPool : Plan → ℕ → Type 0
OfPool p page = InPages p.config.pool.host p.config.pool.pages page

-- machine m owns the frame of the page
pub record OwnsPage (p : Plan) (s : State) (m page : ℕ) : Type 0 where
  pub frame : ℕ
  pub is : s.frame frame ≡ Owned m
  pub page_is : page ≡ address_of p frame / 4096

-- the page is the monitor's: one of the allocator's region that no machine owns
pub record MonitorReach (p : Plan) (s : State) (page : ℕ) : Type 0 where
  pub pool : OfPool p page
  pub unowned : (m : ℕ) → OwnsPage p s m page → ⊥
