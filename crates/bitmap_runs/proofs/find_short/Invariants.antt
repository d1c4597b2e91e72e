-- What the loop of `bitmap_runs::find_short` keeps, and why it ends. Assumes nothing.
use Prim.Native.Nat.{◌-◌, ◌≤◌}
use lib.ListN.{length}
use Rattle.bitmap_runs.specs.Short.{Scanning}
use Rattle.bitmap_runs.proofs.find_short.Given as goal

abbrev pub invariant-loop-p : goal.invariant-loop-p
invariant-loop-p l = (l.p ≤ length l.tree) × Scanning l.tree l.n l.a l.p

abbrev pub decreases-loop-p : goal.decreases-loop-p
decreases-loop-p l = length l.tree - l.p
