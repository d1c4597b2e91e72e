-- What the loop of `bitmap_tree::first_lie` keeps. Assumes nothing.
use Prim.Native.Nat.{ℕ, ◌<◌}
use Rattle.bitmap_tree.specs.Tree.{Honest}
use Rattle.bitmap_tree.proofs.first_lie.Given as goal

abbrev pub invariant-loop-p : goal.invariant-loop-p
invariant-loop-p l = (q : ℕ) → q < l.p → Honest l.tree q
