-- What it is to serve the list of the requests f 0 to f (n - 1): t is the table, z, tr, o and w are the machines' words, the tree, the owners' bytes
-- and the frames' words before, z', tr', o' and w' after, and the buffer has the answers. Assumes nothing.
use Rattle.std.specs.Prelude.{List, ℕ, ◌<◌, Result, Ok, Err}
use Rattle.set_model.specs.Sets.{table}
use Rattle.machine.specs.declared.Request.{Request}
use Rattle.machine.specs.Lists.{Call.All, Reply}
use Rattle.list_model.specs.Carrying.{answer_to}
use Rattle.hv_state.specs.Memory.{Mem, plan_of, decode, Sound}
use Rattle.hv_state.specs.Serving.{CallServed, mem}
use Rattle.list_attempt.specs.declared.Halted.{Halted}
use Rattle.list_attempt.specs.Attempting.{Told}

-- all requests were done, and where the memories are sound their answers stand in the buffer
pub record ListDone (b : Mem) (number : ℕ) (f : ℕ → Request) (n : ℕ) (b' : Mem) (buffer : List ℕ) (at : ℕ) : Type 0 where
  pub served : CallServed b number (All (table f n)) b' (Reply.Done (table (answer_to (plan_of b) (decode b) number f) n))
  pub told : Sound b → (k : ℕ) → k < n → Told buffer at k (answer_to (plan_of b) (decode b) number f k)

-- what is replied to a list
abbrev pub ListSays : List ℕ → List ℕ → List ℕ → List ℕ → List ℕ → ℕ → (ℕ → Request) → ℕ → List ℕ → List ℕ → List ℕ → List ℕ → List ℕ → ℕ
    → Result (Unit {0}) Halted → Type 0
ListSays t z tr o w number f n z' tr' o' w' buffer at (Ok u) = ListDone (mem t z tr o w) number f n (mem t z' tr' o' w') buffer at
ListSays t z tr o w number f n z' tr' o' w' buffer at (Err h) =
    CallServed (mem t z tr o w) number (All (table f n)) (mem t z' tr' o' w') (Reply.Stopped h.index h.answer)
