-- What a request does: `step` gives the answer and the state afterwards. Each definition reads from its first condition to its last, and the
-- first that is not met is the answer. Assumes nothing.
use Rattle.std.specs.Prelude.{Bool, true, false, not, List, ℕ, ◌+◌, ◌-◌, ◌*◌, ◌/◌, ◌%◌, ◌^◌, ltb, leb, eqb, length}
use Rattle.base.specs.Choices.{pick, both, lowest, all_from}
use Rattle.address.specs.declared.Region.{Region}
use Rattle.address.specs.Regions.{host_of}
use Rattle.config_model.specs.Config.{Config}
use Rattle.set_model.specs.Sets.{same, meets, covers, any, none, find, enter, without, table}
use Rattle.owners.specs.States as frames
use Rattle.machine.specs.declared.Which.{Which}
use Rattle.machine.specs.declared.Which.TheVariants.{Processors, Devices}
use Rattle.machine.specs.declared.Request.{Request}
use Rattle.machine.specs.declared.Request.TheVariants.{AddZone, RemoveZone, RemoveZoneWhole, Insert, Remove, Translate, Alloc, AllocContiguous, Dealloc, DeallocContiguous}
use Rattle.machine.specs.declared.Reason.TheVariants.{NoMachine, Present, NotPresent, NotEmpty, NotGiven, Overlap, NoRoom, NotInSet}
use Rattle.machine.specs.declared.Reason.TheVariants.{NotMapped, NoFrames, Below, NotAtFrame, Outside, NotTaken, NotYours}
use Rattle.machine.specs.declared.Answer.TheVariants.{Done, Address}
use Rattle.machine.specs.State.{Plan, State, Outcome, out, refuse, is_free, is_mine, address_of, with_present, with_set, taken, gone, freed}

-- ---- who asks

-- the machine that has a number; the number of machines where there is none
abbrev pub machine_of : Config → ℕ → ℕ
machine_of c number = lowest (λ m. eqb (c.number m) number) c.machines

-- ---- regions

-- the regions that the configuration gives machine m for a set; today, for either set
abbrev pub givens : Config → ℕ → Which → List Region
givens c m w = table (c.region m) (c.count m)

-- r enters a set, where the machine is given it, nothing overlaps it and there is room
abbrev pub enters : Plan → State → ℕ → Which → Region → Outcome
enters p s m w r =
    pick (any (same r) (givens p.config m w))
    (pick (any (meets r) (s.set m w)) (refuse Overlap s) (pick (ltb (length (s.set m w)) p.slots) (out Done (with_set s m w (enter r (s.set m w)))) (refuse NoRoom s)))
    (refuse NotGiven s)

-- that very region leaves a set
abbrev pub leaves : State → ℕ → Which → Region → Outcome
leaves s m w r = pick (any (same r) (s.set m w)) (out Done (with_set s m w (without (same r) (s.set m w)))) (refuse NotInSet s)

-- the host address that a guest address stands for
abbrev pub translates : State → ℕ → Which → ℕ → Outcome
translates s m w addr =
    pick (any (covers addr) (s.set m w))
    (out (Address (host_of (find (covers addr) (s.set m w)).guest (find (covers addr) (s.set m w)).host addr)) s)
    (refuse NotMapped s)

-- ---- frames; one frame is a run of one

-- the n frames from k on are there and free, and k is a multiple of 2 ^ a
abbrev pub fits : Plan → State → ℕ → ℕ → ℕ → Bool
fits p s n a k = both (eqb (k % 2 ^ a) 0) (both (leb (k + n) p.frames) (all_from (λ j. is_free (s.frame j)) k n))

-- the n frames from k on are m's; k is behind the last frame where no run fits
abbrev pub takes_at : Plan → State → ℕ → ℕ → ℕ → Outcome
takes_at p s m n k = pick (ltb k p.frames) (out (Address (address_of p k)) (taken s m k n)) (refuse NoRoom s)

-- the lowest run of n free frames at a multiple of 2 ^ a is m's
abbrev pub takes : Plan → State → ℕ → ℕ → ℕ → Outcome
takes p s m n a = pick (eqb n 0) (refuse NoFrames s) (takes_at p s m n (lowest (fits p s n a) p.frames))

-- the first of the n frames from k on that is not m's; k + n where all are
abbrev pub first_other : (ℕ → frames.State) → ℕ → ℕ → ℕ → ℕ
first_other f m k n = k + lowest (λ j. not (is_mine m (f (k + j)))) n

-- m gives back the n frames from frame k on
abbrev pub gives_back : Plan → State → ℕ → ℕ → ℕ → Outcome
gives_back p s m k n =
    pick (eqb n 0) (refuse NoFrames s)
    (pick (ltb p.frames (k + n)) (refuse Outside s)
    (pick (ltb (first_other s.frame m k n) (k + n)) (pick (is_free (s.frame (first_other s.frame m k n))) (refuse NotTaken s) (refuse NotYours s)) (out Done (freed s k n))))

-- m gives back the n frames from a host address on
abbrev pub gives : Plan → State → ℕ → ℕ → ℕ → Outcome
gives p s m addr n =
    pick (ltb addr (address_of p 0)) (refuse Below s)
    (pick (eqb ((addr - address_of p 0) % 4096) 0) (gives_back p s m ((addr - address_of p 0) / 4096) n) (refuse NotAtFrame s))

-- ---- machines

-- m has no region in either set, and no frame
abbrev pub is_empty : Plan → State → ℕ → Bool
is_empty p s m = both (none (s.set m Processors)) (both (none (s.set m Devices)) (all_from (λ k. not (is_mine m (s.frame k))) 0 p.frames))

abbrev pub goes : Plan → State → ℕ → Outcome
goes p s m = pick (is_empty p s m) (out Done (with_present s m false)) (refuse NotEmpty s)

-- ---- requests

-- a request of a machine that is there
abbrev pub present : Plan → State → ℕ → Request → Outcome
present p s m AddZone = refuse Present s
present p s m RemoveZone = goes p s m
present p s m RemoveZoneWhole = out Done (gone s m)
present p s m (Insert w r) = enters p s m w r
present p s m (Remove w r) = leaves s m w r
present p s m (Translate w addr) = translates s m w addr
present p s m Alloc = takes p s m 1 0
present p s m (AllocContiguous n a) = takes p s m n a
present p s m (Dealloc addr) = gives p s m addr 1
present p s m (DeallocContiguous addr n) = gives p s m addr n

-- a request of a machine that is not there
abbrev pub absent : State → ℕ → Request → Outcome
absent s m AddZone = out Done (with_present s m true)
absent s m RemoveZone = refuse NotPresent s
absent s m RemoveZoneWhole = refuse NotPresent s
absent s m (Insert w r) = refuse NotPresent s
absent s m (Remove w r) = refuse NotPresent s
absent s m (Translate w addr) = refuse NotPresent s
absent s m Alloc = refuse NotPresent s
absent s m (AllocContiguous n a) = refuse NotPresent s
absent s m (Dealloc addr) = refuse NotPresent s
absent s m (DeallocContiguous addr n) = refuse NotPresent s

-- a request of machine m
abbrev pub act : Plan → State → ℕ → Request → Outcome
act p s m q = pick (s.present m) (present p s m q) (absent s m q)

-- a request of the machine that has a number: the answer, and the state afterwards
unfoldable pub step : Plan → State → ℕ → Request → Outcome
step p s number q = pick (ltb (machine_of p.config number) p.config.machines) (act p s (machine_of p.config number) q) (refuse NoMachine s)
