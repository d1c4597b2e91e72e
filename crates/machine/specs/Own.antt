-- What one machine can learn: its answers, and what they depend on. Assumes nothing.
use Rattle.std.specs.Prelude.{◌≡◌, Bool, true, false, List, [], ◌∷◌, ℕ, eqb}
use Rattle.base.specs.Choices.{pick}
use Rattle.machine.specs.declared.Request.{Request}
use Rattle.machine.specs.declared.Request.TheVariants.{AddZone, RemoveZone, RemoveZoneWhole, Insert, Remove, Translate, Alloc, AllocContiguous, Dealloc, DeallocContiguous}
use Rattle.machine.specs.State.{Plan, State, Outcome, is_free}
use Rattle.machine.specs.Step.{machine_of}
use Rattle.machine.specs.Lists.{Call, Call.One, Call.All, Reply, Result, call}
use Rattle.machine.specs.Run.{Event, Event.Asks, Event.Writes, after}
use Rattle.machine.specs.Parts.{Alike}

-- the same frames are free
abbrev pub FreeAlike : State → State → Type 0
FreeAlike a b = (k : ℕ) → is_free (a.frame k) ≡ is_free (b.frame k)

-- of two states that became x and y: the same answer, machine m's part afterwards, and the same frames free where they were
pub record SameOut (m : ℕ) (a b : State) (x y : Outcome) : Type 0 where
  pub answer : x.answer ≡ y.answer
  pub part : Alike m x.state y.state
  pub free : FreeAlike a b → FreeAlike x.state y.state

-- the same of replies
pub record SameReply (m : ℕ) (a b : State) (x y : Result) : Type 0 where
  pub reply : x.reply ≡ y.reply
  pub part : Alike m x.state y.state
  pub free : FreeAlike a b → FreeAlike x.state y.state

-- the request is one of the pool: what it is answered depends on which frames are free
abbrev pub of_pool : Request → Bool
of_pool AddZone = false
of_pool RemoveZone = false
of_pool RemoveZoneWhole = false
of_pool (Insert w r) = false
of_pool (Remove w r) = false
of_pool (Translate w addr) = false
of_pool Alloc = true
of_pool (AllocContiguous n a) = true
of_pool (Dealloc addr) = true
of_pool (DeallocContiguous addr n) = true

-- some request of the list is one of the pool
abbrev pub some_pool : List Request → Bool
some_pool [] = false
some_pool (q ∷ qs) = pick (of_pool q) true (some_pool qs)

-- the call asks something of the pool
abbrev pub calls_pool : Call → Bool
calls_pool (One q) = of_pool q
calls_pool (All qs) = some_pool qs

-- the event is machine m's
abbrev pub by : Plan → ℕ → Event → Bool
by p m (Asks number c) = eqb (machine_of p.config number) m
by p m (Writes m' j v) = eqb m' m

-- machine m's events alone
abbrev pub only : Plan → ℕ → List Event → List Event
only p m [] = []
only p m (x ∷ xs) = pick (by p m x) (x ∷ only p m xs) (only p m xs)

-- an event's reply, before those of the rest
abbrev pub reply : Plan → State → Event → List Reply → List Reply
reply p s (Asks number c) rest = (call p s number c).reply ∷ rest
reply p s (Writes m j v) rest = rest

-- what machine m is replied
abbrev pub replies : Plan → ℕ → State → List Event → List Reply
replies p m s [] = []
replies p m s (x ∷ xs) = pick (by p m x) (reply p s x (replies p m (after p s x) xs)) (replies p m (after p s x) xs)

-- the event asks nothing of the pool
abbrev pub Modest : Event → Type 0
Modest (Asks number c) = calls_pool c ≡ false
Modest (Writes m j v) = Unit

-- machine m asks nothing of the pool
abbrev pub Quiet : Plan → ℕ → List Event → Type 0
Quiet p m [] = Unit
Quiet p m (x ∷ xs) = (by p m x ≡ true → Modest x) × Quiet p m xs
