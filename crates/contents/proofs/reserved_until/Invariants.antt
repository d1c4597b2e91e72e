-- What the loop of `contents::reserved_until` keeps. Assumes nothing.
use mathlib.Core.Path.{◌≡◌}
use Rattle.base.specs.Search.{Stops}
use Rattle.owners.specs.States.{state, State.Reserved}
use Rattle.contents.proofs.reserved_until.Given as goal

abbrev pub invariant-loop-k : goal.invariant-loop-k
invariant-loop-k l = Stops (λ m. state l.tree l.owners m ≡ Reserved) l.n l.k l.k
