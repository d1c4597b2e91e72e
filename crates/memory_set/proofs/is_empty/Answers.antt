-- `memory_set::is_empty` meets its contract. Assumes nothing.
use Rattle.memory_set.proofs.Laws.{none_said}
use Rattle.memory_set.proofs.is_empty.Goals as goal

pub returns : goal.returns
returns c = let x = c.in_ok-n.ensures in (x.0, none_said x.0 x.1)
