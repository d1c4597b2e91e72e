-- `hv_check::is_clean` meets its contract. Assumes nothing.
use Rattle.hv_check.proofs.Laws.{clean_says}
use Rattle.hv_check.proofs.is_clean.Goals as goal

pub returns : goal.returns
returns c = rw c.is_ok.ensures.value (clean_says _ _ _ _ _ c.check.ensures)
