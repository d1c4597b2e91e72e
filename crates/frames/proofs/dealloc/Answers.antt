-- `frames::dealloc` meets its contract. Assumes nothing.
use native.Mathlib.Omega.{arith}
use Rattle.frames.proofs.Cleaning.{took_back}
use Rattle.frames.proofs.dealloc.Goals as goal

pub returns : goal.returns
returns c = took_back _ _ _ _ _ _ _ _ _ c.if-not-is_backed.ensures _ c.in_ok-k.ensures c.assign_one.ensures c.wipe.ensures (omega arith)
