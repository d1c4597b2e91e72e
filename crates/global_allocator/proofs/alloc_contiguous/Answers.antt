-- `global_allocator::alloc_contiguous` meets its contract. Assumes nothing.
use Rattle.global_allocator.proofs.Writes.{gave_run}
use Rattle.global_allocator.proofs.alloc_contiguous.Goals as goal

pub returns : goal.returns
returns c = gave_run _ _ _ _ _ _ _ _ _ c.in_ok-s.ensures c.assign.ensures
