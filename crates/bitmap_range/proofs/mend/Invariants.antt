-- What the loop of `bitmap_range::mend` keeps, and why it ends. Assumes nothing.
use Rattle.bitmap_range.proofs.Mending.{Mending}
use Rattle.bitmap_range.proofs.mend.Given as goal

abbrev pub invariant-loop-a : goal.invariant-loop-a
invariant-loop-a l = Mending l.initial.tree l.lo l.hi l.tree l.a l.b l.v

abbrev pub decreases-loop-a : goal.decreases-loop-a
decreases-loop-a l = l.b
