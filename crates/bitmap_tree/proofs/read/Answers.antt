-- `bitmap_tree::read` meets its contract. Assumes nothing.
use Rattle.bitmap_tree.specs.Tree.{node_bit}
use Rattle.bitmap_tree.proofs.read.Goals as goal

pub returns : goal.returns
unfolding node_bit
returns c = c.get.ensures
