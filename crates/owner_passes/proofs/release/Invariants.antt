-- What the loop of `owner_passes::release` keeps, and why it ends. Assumes nothing.
use Prim.Native.Nat.{◌-◌, ◌≤◌}
use lib.ListN.{length}
use Rattle.owner_passes.proofs.Releasing.{Releasing}
use Rattle.owner_passes.proofs.release.Given as goal

abbrev pub invariant-loop-k : goal.invariant-loop-k
invariant-loop-k l = (l.k ≤ length l.initial.owners) × Releasing l.initial.tree l.initial.owners l.c l.k l.tree l.owners

abbrev pub decreases-loop-k : goal.decreases-loop-k
decreases-loop-k l = length l.initial.owners - l.k
