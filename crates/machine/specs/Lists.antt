-- A list of requests of one machine, all done or none. Assumes nothing.
use Rattle.std.specs.Prelude.{Bool, true, false, List, [], ◌∷◌, ℕ, suc}
use Rattle.base.specs.Choices.{pick}
use Rattle.machine.specs.declared.Request.{Request}
use Rattle.machine.specs.declared.Answer.{Answer}
use Rattle.machine.specs.State.{Plan, State, Outcome}
use Rattle.machine.specs.Step.{step}

-- what a machine calls for: one request, or a list of them
pub data Call : Type 0 where
  One : Request → Call
  All : List Request → Call

-- what is replied: the answer to one request; those to all members of a list; or which member of a list is the first that is refused, and why
pub data Reply : Type 0 where
  Answered : Answer → Reply
  Done : List Answer → Reply
  Stopped : ℕ → Answer → Reply

-- the answer is not a refusal
abbrev pub is_done : Answer → Bool
is_done Answer.Done = true
is_done (Answer.Address a) = true
is_done (Answer.No why) = false
is_done Answer.Corrupt = false

-- what comes of doing requests one after the other up to the first that is refused: the answers and the state, or the place of that one
pub data Tried : Type 0 where
  Through : List Answer → State → Tried
  Halted : ℕ → Answer → Tried

-- the same with an answer before
abbrev pub before : Answer → Tried → Tried
before a (Through l s) = Through (a ∷ l) s
before a (Halted i why) = Halted (suc i) why

abbrev pub tries : Plan → State → ℕ → List Request → Tried
tries p s number [] = Through [] s
tries p s number (q ∷ qs) = pick (is_done (step p s number q).answer) (before (step p s number q).answer (tries p (step p s number q).state number qs)) (Halted 0 (step p s number q).answer)

-- a reply, and the state afterwards
pub record Result : Type 0 where
  pub reply : Reply
  pub state : State

-- all of a list that went through, or nothing
abbrev pub all_or_none : State → Tried → Result
all_or_none s (Through l s') = record { reply = Done l; state = s' }
all_or_none s (Halted i why) = record { reply = Stopped i why; state = s }

-- what the machine that has a number calls for: the reply, and the state afterwards
abbrev pub call : Plan → State → ℕ → Call → Result
call p s number (One q) = record { reply = Answered (step p s number q).answer; state = (step p s number q).state }
call p s number (All qs) = all_or_none s (tries p s number qs)
