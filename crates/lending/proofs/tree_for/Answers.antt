-- `lending::tree_for` meets its contract. Assumes nothing.
use native.Mathlib.Omega.{arith}
use Rattle.lending.proofs.Laws.{risen, rising_bound}
use Rattle.lending.proofs.tree_for.Goals as goal

pub overflow_mul-w : goal.overflow_mul-w
overflow_mul-w c = omega (arith, rising_bound c.loop-w.invariant)

pub overflow_add-w : goal.overflow_add-w
overflow_add-w c = omega (arith, rising_bound c.loop-w.invariant)

pub returns : goal.returns
returns c = risen c.loop-w.invariant (omega arith)
