-- What the loop of `bitmap_runs::set_since` keeps, and why it ends. Assumes nothing.
use Rattle.bitmap_runs.proofs.Windows.{Backing}
use Rattle.bitmap_runs.proofs.set_since.Given as goal

abbrev pub invariant-loop-e : goal.invariant-loop-e
invariant-loop-e l = Backing l.tree l.a l.b l.e

abbrev pub decreases-loop-e : goal.decreases-loop-e
decreases-loop-e l = l.e
