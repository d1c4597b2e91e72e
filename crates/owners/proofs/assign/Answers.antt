-- `owners::assign` meets its contract. Assumes nothing.
use Rattle.bitmap_tree.proofs.Fullness.{full_bound}
use Rattle.owners.proofs.assign.Goals as goal

pub change-requires : goal.change-requires
change-requires c = let b = full_bound _ c.requires.0.full in record { a_lt_b = (c.requires.1, c.requires.2); tree_nonzero = (b.0, b.1, c.requires.3) }
