-- `memory_set::overlaps_vmem` meets its contract. Assumes nothing.
use Rattle.set_model.specs.Sets.{meets}
use Rattle.memory_set.proofs.Laws.{any_said}
use Rattle.memory_set.proofs.overlaps_vmem.Goals as goal

pub returns : goal.returns
returns c = let x = c.in_ok-n.ensures in (x.0, any_said (meets c.args.r) x.0 x.1 c.first_meeting.ensures)
