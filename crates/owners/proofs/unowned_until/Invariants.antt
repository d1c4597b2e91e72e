-- What the loop of `owners::unowned_until` keeps. Assumes nothing.
use Rattle.base.specs.Search.{Stops}
use Rattle.owners.specs.States.{Unowned}
use Rattle.owners.proofs.unowned_until.Given as goal

abbrev pub invariant-loop-k : goal.invariant-loop-k
invariant-loop-k l = Stops (Unowned l.tree l.owners) l.a l.k l.k
