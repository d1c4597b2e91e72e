-- What memories have lived through since they were started. Assumes nothing.
use Rattle.std.specs.Prelude.{List, [], ◌∷◌, ℕ}
use Rattle.machine.specs.Lists.{Call}
use Rattle.machine.specs.Run.{Event, Event.Asks}
use Rattle.call_bytes.specs.Calls.{is_list, Wrong}
use Rattle.call_bytes.specs.Framing.{Item}
use Rattle.hv_state.specs.Memory.{Mem}
use Rattle.hv_calls.specs.Calling.{IsCall}
use Rattle.hv_start.specs.Starting.{WasStarted}
use Rattle.hv_theorems.specs.Happening.{Becomes}

-- the calls of a sequence are these events: each item is a call of the machine that it names, or malformed and no event
pub data AreEvents (s : List ℕ) : List Item → List Event → Type 0 where
  None : AreEvents s [] []
  Called : {items : List Item} {xs : List Event} (item : Item) (c : Call) → IsCall s item.from item.len c → AreEvents s items xs → AreEvents s (item ∷ items) (Asks item.number c ∷ xs)
  Malformed : {items : List Item} {xs : List Event} (item : Item) (i : ℕ) → Wrong (is_list s item.from item.len) s item.from item.len i → AreEvents s items xs → AreEvents s (item ∷ items) xs

-- the memories d were started with the configuration in the bytes s, and became what they are by calls of any machines in any order and by what
-- machines wrote into frames that they owned
pub record Lives (s : List ℕ) (d : Mem) : Type 0 where
  -- what was lent, and what it was when it was started
  pub lent : Mem
  pub begun : Mem
  pub started : WasStarted s lent begun
  -- what happened since
  pub events : List Event
  pub becomes : Becomes begun events d
