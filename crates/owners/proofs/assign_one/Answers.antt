-- `owners::assign_one` meets its contract. Assumes nothing.
use Rattle.bitmap_tree.proofs.Fullness.{full_bound}
use Rattle.owners.proofs.assign_one.Goals as goal

pub change_one-requires : goal.change_one-requires
change_one-requires c = let b = full_bound _ c.requires.0.full in (c.requires.1, b.0, b.1, c.requires.2)
