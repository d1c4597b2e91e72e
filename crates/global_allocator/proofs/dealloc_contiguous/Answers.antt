-- `global_allocator::dealloc_contiguous` meets its contract. Assumes nothing.
use Rattle.global_allocator.proofs.Writes.{run_freed}
use Rattle.global_allocator.proofs.dealloc_contiguous.Goals as goal

pub returns : goal.returns
returns c = run_freed _ _ _ _ _ _ _ _ _ c.in_ok-k.ensures c.assign.ensures
