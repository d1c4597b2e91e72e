-- What the loop of `lending::tree_for` keeps, and why it ends. Assumes nothing.
use Prim.Native.Nat.{◌-◌}
use Rattle.lending.proofs.Laws.{Rising}
use Rattle.lending.proofs.tree_for.Given as goal

abbrev pub invariant-loop-w : goal.invariant-loop-w
invariant-loop-w l = Rising l.frames l.w

abbrev pub decreases-loop-w : goal.decreases-loop-w
decreases-loop-w l = l.frames - l.w
