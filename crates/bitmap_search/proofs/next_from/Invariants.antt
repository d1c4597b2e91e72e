-- What the loop of `bitmap_search::next_from` keeps, and why it ends. Assumes nothing.
use Prim.Native.Nat.{◌+◌}
use lib.ListN.{length}
use Rattle.bitmap_search.proofs.Rise.{Rising}
use Rattle.bitmap_search.proofs.next_from.Given as goal

abbrev pub invariant-loop-n : goal.invariant-loop-n
invariant-loop-n l = Rising l.tree (length l.tree + l.k) l.n l.end

abbrev pub decreases-loop-n : goal.decreases-loop-n
decreases-loop-n l = l.end
