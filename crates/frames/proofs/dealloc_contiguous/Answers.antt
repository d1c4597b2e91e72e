-- `frames::dealloc_contiguous` meets its contract. Assumes nothing.
use native.Mathlib.Omega.{arith}
use Rattle.bitmap_tree.proofs.Fullness.{full_bound}
use Rattle.frames.proofs.Cleaning.{took_run_back}
use Rattle.frames.proofs.dealloc_contiguous.Goals as goal

pub overflow_add-end : goal.overflow_add-end
overflow_add-end c = let b = full_bound _ c.in_ok-k.ensures.known.fits.matched.full in let l = c.in_ok-k.ensures.within in omega arith

pub returns : goal.returns
returns c = took_run_back _ _ _ _ _ _ _ _ _ c.if-not-is_backed.ensures _ _ c.in_ok-k.ensures c.assign.ensures c.wipe.ensures (omega arith)
