-- `frames::alloc_contiguous` meets its contract. Assumes nothing.
use Rattle.frames.proofs.Cleaning.{gave_run}
use Rattle.frames.proofs.alloc_contiguous.Goals as goal

pub returns : goal.returns
returns c = gave_run _ _ _ _ _ _ _ _ _ _ c.if-not-is_backed.ensures c.in_ok-alloc_contiguous.ensures
