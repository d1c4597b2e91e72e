-- `hv_whole::free_all` meets its contract. Assumes nothing.
use Rattle.hv_whole.proofs.Laws.{freed_all}
use Rattle.hv_whole.proofs.free_all.Goals as goal

pub returns : goal.returns
returns c = rw c.is_ok.ensures.value (freed_all _ _ _ _ _ _ _ _ _ c.release_all.ensures)
