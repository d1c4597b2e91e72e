-- What the loop of `contents::others_until` keeps. Assumes nothing.
use mathlib.Core.Path.{◌≡◌}
use Rattle.base.specs.Search.{Stops}
use Rattle.owners.specs.States.{state, State.Owned}
use Rattle.contents.proofs.others_until.Given as goal

abbrev pub invariant-loop-k : goal.invariant-loop-k
invariant-loop-k l = Stops (λ m. state l.tree l.owners m ≡ Owned l.c → ⊥) l.n l.k l.k
