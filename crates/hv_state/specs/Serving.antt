-- What it is to serve a request. Assumes nothing.
use Rattle.std.specs.Prelude.{◌≡◌, ℕ, List}
use Rattle.machine.specs.declared.Request.{Request}
use Rattle.machine.specs.declared.Answer.{Answer}
use Rattle.machine.specs.State.{out}
use Rattle.machine.specs.Step.{step}
use Rattle.machine.specs.Lists.{Call, Reply, call}
use Rattle.machine.specs.Parts.{Refused}
use Rattle.hv_state.specs.Memory.{Mem, plan_of, decode, Sound}

-- the request q of the machine that has a number was served: b are the memories before, b' after, and a is the answer. Whatever the memories
-- hold, a refusal leaves every word and byte; where they are sound, the answer and what they mean afterwards are those of `step`, they stay
-- sound, and the plan stays. "Corrupt" is answered only where they are not sound
pub record Served (b : Mem) (number : ℕ) (q : Request) (b' : Mem) (a : Answer) : Type 0 where
  pub kept : Refused a → b' ≡ b
  pub same : Sound b → step (plan_of b) (decode b) number q ≡ out a (decode b')
  pub sound : Sound b → Sound b'
  pub plan : Sound b → plan_of b' ≡ plan_of b

-- the reply says that nothing was done
abbrev pub Undone : Reply → Type 0
Undone (Reply.Answered a) = Refused a
Undone (Reply.Done l) = ⊥
Undone (Reply.Stopped i why) = Unit

-- a call of the machine that has a number, one request or a list, was served: as a request is, by `call`. Whatever the memories hold, what is not
-- done leaves every word and byte
pub record CallServed (b : Mem) (number : ℕ) (c : Call) (b' : Mem) (r : Reply) : Type 0 where
  pub kept : Undone r → b' ≡ b
  pub same : Sound b → call (plan_of b) (decode b) number c ≡ record { reply = r; state = decode b' }
  pub sound : Sound b → Sound b'
  pub plan : Sound b → plan_of b' ≡ plan_of b

-- the memories in their order
abbrev pub mem : List ℕ → List ℕ → List ℕ → List ℕ → List ℕ → Mem
mem table zones tree owners words = record { table = table; zones = zones; tree = tree; owners = owners; words = words }
