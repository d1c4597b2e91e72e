-- `allocator_pool::insert` meets its contract. Assumes nothing.
use native.Mathlib.Omega.{arith}
use Rattle.allocator_pool.proofs.Writes.{opened}
use Rattle.allocator_pool.proofs.insert.Goals as goal

pub returns : goal.returns
returns c = opened _ _ _ _ _ _ _ c.in_ok-may_change.ensures (omega arith) c.assign.ensures
