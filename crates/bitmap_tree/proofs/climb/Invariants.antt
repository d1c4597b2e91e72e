-- What the loop of `bitmap_tree::climb` keeps, and why it ends. Assumes nothing.
use Rattle.bitmap_tree.proofs.Ascent.{Climbing}
use Rattle.bitmap_tree.proofs.climb.Given as goal

abbrev pub invariant-loop-n : goal.invariant-loop-n
invariant-loop-n l = Climbing l.initial.tree l.tree l.j l.v l.n l.u

abbrev pub decreases-loop-n : goal.decreases-loop-n
decreases-loop-n l = l.n
