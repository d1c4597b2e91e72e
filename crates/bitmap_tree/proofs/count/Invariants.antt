-- What the loop of `bitmap_tree::count` keeps. Assumes nothing.
use Rattle.bitmap_tree.proofs.Counts.{Counting}
use Rattle.bitmap_tree.proofs.count.Given as goal

abbrev pub invariant-loop-p : goal.invariant-loop-p
invariant-loop-p l = Counting l.tree l.p l.total
