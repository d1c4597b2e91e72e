-- `set_shifts::shift_down` meets its contract. Assumes nothing.
use native.Mathlib.Omega.{arith}
use Rattle.set_shifts.proofs.Steps.{down_step}
use Rattle.set_shifts.proofs.shift_down.Goals as goal

pub loop-i-preserved : goal.loop-i-preserved
loop-i-preserved c = down_step c.args.at c.loop-i.i (omega arith) c.loop-i.invariant c.get-r.ensures c.put.ensures
