-- `memory_set::has_region_starting_at` meets its contract. Assumes nothing.
use Rattle.set_model.specs.Sets.{starts}
use Rattle.memory_set.proofs.Laws.{any_said}
use Rattle.memory_set.proofs.has_region_starting_at.Goals as goal

pub returns : goal.returns
returns c = let x = c.in_ok-n.ensures in (x.0, any_said (starts c.args.guest) x.0 x.1 c.first_starting.ensures)
