-- `bitmap_tree::change_one` meets its contract. Assumes nothing.
use Rattle.bitmap_tree.proofs.Ascent.{changed_one}
use Rattle.bitmap_tree.proofs.change_one.Goals as goal

pub returns : goal.returns
returns c = changed_one _ _ _ _ c.climb.ensures
