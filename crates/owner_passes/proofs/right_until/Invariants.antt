-- What the loop of `owner_passes::right_until` keeps. Assumes nothing.
use Rattle.base.specs.Search.{Stops}
use Rattle.owners.specs.States.{RightAt}
use Rattle.owner_passes.proofs.right_until.Given as goal

abbrev pub invariant-loop-k : goal.invariant-loop-k
invariant-loop-k l = Stops (RightAt l.base l.tree l.owners) 0 l.k l.k
