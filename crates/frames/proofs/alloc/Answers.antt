-- `frames::alloc` meets its contract. Assumes nothing.
use Rattle.frames.proofs.Cleaning.{gave}
use Rattle.frames.proofs.alloc.Goals as goal

pub returns : goal.returns
returns c = gave _ _ _ _ _ _ _ _ c.if-not-is_backed.ensures c.in_ok-alloc.ensures
