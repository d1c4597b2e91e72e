-- How far the requests f 0, f 1, .. of a list have gone, in memories whose frames' words are all 0. Assumes nothing.
use Rattle.std.specs.Prelude.{◌≡◌, true, false, List, ℕ, ◌+◌, ◌*◌, ◌<◌, get_or, Result, Ok, Err}
use Rattle.machine.specs.declared.Request.{Request}
use Rattle.machine.specs.declared.Answer.{Answer}
use Rattle.machine.specs.Lists.{is_done}
use Rattle.machine_codes.specs.Codes.{answer_code, address_in}
use Rattle.list_model.specs.Carrying.{state_after, answer_to}
use Rattle.hv_state.specs.Memory.{Mem, plan_of, decode, Sound}
use Rattle.hv_state.specs.Serving.{mem}
use Rattle.hv_blind.specs.Blind.{Blank}
use Rattle.list_attempt.specs.declared.Halted.{Halted}

-- the answer to request k stands in the buffer from `at` on: two words for each request, a code and an address, which is 0 where there is none
pub record Told (buffer : List ℕ) (at k : ℕ) (a : Answer) : Type 0 where
  pub code : get_or buffer (at + 2 * k) 0 ≡ answer_code a
  pub address : get_or buffer (at + 2 * k + 1) 0 ≡ address_in a 0

-- the memories b became b' by the first i requests, which were all done, and their answers stand in the buffer
pub record Went (b : Mem) (number : ℕ) (f : ℕ → Request) (i : ℕ) (b' : Mem) (buffer : List ℕ) (at : ℕ) : Type 0 where
  pub sound : Sound b'
  pub plan : plan_of b' ≡ plan_of b
  pub state : decode b' ≡ state_after (plan_of b) (decode b) number f i
  pub done : (k : ℕ) → k < i → is_done (answer_to (plan_of b) (decode b) number f k) ≡ true
  pub told : (k : ℕ) → k < i → Told buffer at k (answer_to (plan_of b) (decode b) number f k)

-- request i is the first that is not done, and a is what it is answered
pub record Halts (b : Mem) (number : ℕ) (f : ℕ → Request) (i : ℕ) (a : Answer) : Type 0 where
  pub done : (k : ℕ) → k < i → is_done (answer_to (plan_of b) (decode b) number f k) ≡ true
  pub answer : answer_to (plan_of b) (decode b) number f i ≡ a

-- n requests were attempted: t is the table, z, tr and o are the machines' words, the tree and the owners' bytes before, z', tr' and o' after, and
-- the buffer has the answers
abbrev pub AttemptSays : List ℕ → List ℕ → List ℕ → List ℕ → ℕ → (ℕ → Request) → ℕ → List ℕ → List ℕ → List ℕ → List ℕ → ℕ
    → Result (Unit {0}) Halted → Type 0
AttemptSays t z tr o number f n z' tr' o' buffer at (Ok u) =
    (v : List ℕ) → Blank v → Sound (mem t z tr o v) → Went (mem t z tr o v) number f n (mem t z' tr' o' v) buffer at
AttemptSays t z tr o number f n z' tr' o' buffer at (Err h) =
    (h.index < n) × (is_done h.answer ≡ false) × ((v : List ℕ) → Blank v → Sound (mem t z tr o v) → Halts (mem t z tr o v) number f h.index h.answer)
