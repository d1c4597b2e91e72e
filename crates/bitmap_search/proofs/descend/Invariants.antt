-- What the loop of `bitmap_search::descend` keeps, and why it ends. Assumes nothing.
use Prim.Native.Nat.{◌-◌}
use lib.ListN.{length}
use Rattle.bitmap_search.proofs.Descent.{Descending}
use Rattle.bitmap_search.proofs.descend.Given as goal

abbrev pub invariant-loop-m : goal.invariant-loop-m
invariant-loop-m l = Descending l.tree l.n l.m

abbrev pub decreases-loop-m : goal.decreases-loop-m
decreases-loop-m l = length l.tree - l.m
