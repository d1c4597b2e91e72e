-- `frames_pool::insert` meets its contract. Assumes nothing.
use native.Mathlib.Omega.{arith}
use Rattle.allocator_pool.proofs.Writes as shared
use Rattle.frames_pool.proofs.Cleaning.{opened}
use Rattle.frames_pool.proofs.insert.Goals as goal

pub returns : goal.returns
returns c = opened _ _ _ _ _ _ _ _ _ c.if-not-is_backed.ensures (shared.opened _ _ _ _ _ _ _ c.in_ok-may_change.ensures (omega arith) c.assign.ensures) c.wipe.ensures (omega arith)
