-- When a request succeeds. Assumes nothing.
use Rattle.std.specs.Prelude.{◌≡◌, true, false, [], ℕ, ◌+◌, ◌%◌, ◌^◌, ◌≤◌, ◌<◌, length}
use Rattle.address.specs.declared.Region.{Region}
use Rattle.address.specs.Pages.{Contains}
use Rattle.config_model.specs.Config.{Config, GuestMeets}
use Rattle.set_model.specs.Sets.{In}
use Rattle.owners.specs.States.{State.Free, State.Owned}
use Rattle.machine.specs.declared.Which.{Which}
use Rattle.machine.specs.declared.Request.{Request}
use Rattle.machine.specs.declared.Request.TheVariants.{AddZone, RemoveZone, RemoveZoneWhole, Insert, Remove, Translate, Alloc, AllocContiguous, Dealloc, DeallocContiguous}
use Rattle.machine.specs.declared.Answer.{Answer}
use Rattle.machine.specs.State.{Plan, State, address_of}
use Rattle.machine.specs.Step.{givens}

-- the answer is not a refusal
abbrev pub Succeeds : Answer → Type 0
Succeeds Answer.Done = Unit
Succeeds (Answer.Address a) = Unit
Succeeds (Answer.No why) = ⊥
Succeeds Answer.Corrupt = ⊥

-- machine m has no region in either set, and no frame
pub record Empty (s : State) (m : ℕ) : Type 0 where
  pub regions : (w : Which) → s.set m w ≡ []
  pub frames : (k : ℕ) → s.frame k ≡ Owned m → ⊥

-- the configuration gives machine m the region for the set, nothing in the set overlaps it in guest space, and there is room
pub record Enterable (p : Plan) (s : State) (m : ℕ) (w : Which) (r : Region) : Type 0 where
  pub given : In r (givens p.config m w)
  pub clear : (x : Region) → In x (s.set m w) → GuestMeets r x → ⊥
  pub room : length (s.set m w) < p.slots

-- a region of the set has the guest address
pub record Mapped (s : State) (m : ℕ) (w : Which) (addr : ℕ) : Type 0 where
  pub region : Region
  pub listed : In region (s.set m w)
  pub has : Contains region.guest region.pages addr

-- n frames, one at least, are free from a multiple of 2 ^ a on
pub record Runs (s : State) (n a : ℕ) : Type 0 where
  pub some : 0 < n
  pub first : ℕ
  pub aligned : first % 2 ^ a ≡ 0
  pub free : (k : ℕ) → first ≤ k → k < first + n → s.frame k ≡ Free

-- the n frames from a host address on, one at least, are machine m's
pub record Held (p : Plan) (s : State) (m addr n : ℕ) : Type 0 where
  pub some : 0 < n
  pub first : ℕ
  pub place : addr ≡ address_of p first
  pub mine : (k : ℕ) → first ≤ k → k < first + n → s.frame k ≡ Owned m

-- what a request of machine m needs, beside that the machine is configured
abbrev pub May : Plan → State → ℕ → Request → Type 0
May p s m AddZone = s.present m ≡ false
May p s m RemoveZone = (s.present m ≡ true) × Empty s m
May p s m RemoveZoneWhole = s.present m ≡ true
May p s m (Insert w r) = (s.present m ≡ true) × Enterable p s m w r
May p s m (Remove w r) = (s.present m ≡ true) × In r (s.set m w)
May p s m (Translate w addr) = (s.present m ≡ true) × Mapped s m w addr
May p s m Alloc = (s.present m ≡ true) × Runs s 1 0
May p s m (AllocContiguous n a) = (s.present m ≡ true) × Runs s n a
May p s m (Dealloc addr) = (s.present m ≡ true) × Held p s m addr 1
May p s m (DeallocContiguous addr n) = (s.present m ≡ true) × Held p s m addr n
