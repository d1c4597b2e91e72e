-- What the loop of `bitmap_search::taken_until` keeps, and why it ends. Assumes nothing.
use Prim.Native.Nat.{◌+◌, ◌-◌}
use lib.ListN.{length}
use Rattle.bitmap_search.proofs.Row.{Along}
use Rattle.bitmap_search.proofs.taken_until.Given as goal

abbrev pub invariant-loop-n : goal.invariant-loop-n
invariant-loop-n l = Along l.tree l.a l.n

abbrev pub decreases-loop-n : goal.decreases-loop-n
decreases-loop-n l = length l.tree + l.b - l.n
