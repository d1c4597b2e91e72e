-- What the loop of `owner_passes::other_until` keeps. Assumes nothing.
use mathlib.Core.Path.{◌≡◌}
use lib.ListN.{get_or}
use Rattle.base.specs.Search.{Stops}
use Rattle.owner_passes.proofs.other_until.Given as goal

abbrev pub invariant-loop-k : goal.invariant-loop-k
invariant-loop-k l = Stops (λ m. get_or l.owners m 255 ≡ l.c → ⊥) l.a l.k l.k
