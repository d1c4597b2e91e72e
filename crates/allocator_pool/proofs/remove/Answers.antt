-- `allocator_pool::remove` meets its contract. Assumes nothing.
use Rattle.allocator_pool.proofs.Writes.{closed}
use Rattle.allocator_pool.proofs.remove.Goals as goal

pub returns : goal.returns
returns c = closed _ _ _ _ _ _ _ c.in_ok-may_change.ensures c.assign.ensures
