-- What the loop of `owner_passes::count` keeps. Assumes nothing.
use mathlib.Core.Path.{◌≡◌}
use Rattle.base.specs.Ranges.{how_many}
use Rattle.owners.specs.States.{state}
use Rattle.owner_passes.specs.Passes.{owns}
use Rattle.owner_passes.proofs.count.Given as goal

abbrev pub invariant-loop-k : goal.invariant-loop-k
invariant-loop-k l = l.total ≡ how_many (λ m. owns l.c (state l.tree l.owners m)) l.k
