-- What the loop of `contents::clean_until` keeps. Assumes nothing.
use mathlib.Core.Path.{◌≡◌}
use Rattle.base.specs.Search.{Stops}
use Rattle.bitmap_tree.specs.Tree.{free}
use Rattle.contents.specs.Contents.{Zero}
use Rattle.contents.proofs.clean_until.Given as goal

abbrev pub invariant-loop-k : goal.invariant-loop-k
invariant-loop-k l = Stops (λ m. free l.tree m ≡ 1 → Zero l.words m) 0 l.k l.k
