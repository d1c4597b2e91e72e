-- What happens to the memories: calls are served, of any machines in any order, and machines write to frames that they own. Assumes nothing.
use Rattle.std.specs.Prelude.{◌≡◌, true, List, [], ◌∷◌, ℕ, ◌/◌, set}
use Rattle.owners.specs.States.{State.Owned}
use Rattle.machine.specs.Lists.{Call, Reply}
use Rattle.machine.specs.Run.{Event, Event.Asks, run}
use Rattle.hv_state.specs.Memory.{Mem, plan_of, decode, Sound}
use Rattle.hv_state.specs.Serving.{CallServed, mem}

-- the memories with word j of the frames written
abbrev pub wrote : Mem → ℕ → ℕ → Mem
wrote b j v = mem b.table b.zones b.tree b.owners (set b.words j v)

-- d is what the events make of the memories b
pub data Becomes : Mem → List Event → Mem → Type 0 where
  Stays : (b : Mem) → Becomes b [] b
  Serves : (b c d : Mem) (xs : List Event) (number : ℕ) (q : Call) (r : Reply) → CallServed b number q c r → Becomes c xs d → Becomes b (Asks number q ∷ xs) d
  Writes : (b d : Mem) (xs : List Event) (m j v : ℕ) → (decode b).present m ≡ true → (decode b).frame (j / 512) ≡ Owned m
      → Becomes (wrote b j v) xs d → Becomes b (Event.Writes m j v ∷ xs) d

-- d is sound, has the plan of b, and means what the events make of what b means
pub record Reached (b : Mem) (xs : List Event) (d : Mem) : Type 0 where
  pub sound : Sound d
  pub plan : plan_of d ≡ plan_of b
  pub state : decode d ≡ run (plan_of b) (decode b) xs
