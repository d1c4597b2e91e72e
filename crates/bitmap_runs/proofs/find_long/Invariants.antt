-- What the loop of `bitmap_runs::find_long` keeps, and why it ends. Assumes nothing.
use Prim.Native.Nat.{◌-◌}
use Rattle.bitmap_runs.proofs.Windows.{Searching}
use Rattle.bitmap_runs.proofs.find_long.Given as goal

abbrev pub invariant-loop-k : goal.invariant-loop-k
invariant-loop-k l = Searching l.tree l.n l.a l.k

abbrev pub decreases-loop-k : goal.decreases-loop-k
decreases-loop-k l = l.cap - l.k
