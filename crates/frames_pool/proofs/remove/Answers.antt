-- `frames_pool::remove` meets its contract. Assumes nothing.
use Rattle.frames_pool.proofs.Cleaning.{closed}
use Rattle.frames_pool.proofs.remove.Goals as goal

pub returns : goal.returns
returns c = closed _ _ _ _ _ _ _ _ c.if-not-is_backed.ensures c.in_ok-remove.ensures
