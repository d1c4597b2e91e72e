-- `memory_set::check` meets its contract. Assumes nothing.
use native.Mathlib.Omega.{arith}
use Rattle.memory_set.proofs.Laws.{wrong_used, all_right}
use Rattle.memory_set.proofs.check.Goals as goal

pub returns-then-i-n : goal.returns-then-i-n
returns-then-i-n c = let x = c.in_ok-n.ensures in wrong_used x.0 x.1 c.first_wrong-i.ensures (omega (arith, c.if-i-n.true))

pub returns : goal.returns
returns c = let x = c.in_ok-n.ensures in (x.0.lies, all_right x.0 x.1 c.first_wrong-i.ensures (omega (arith, c.if-i-n.false)) c.first_left-j.ensures (omega (arith, c.if-j-slots.false)))
