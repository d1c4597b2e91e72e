-- `hv_blind::dealloc_contiguous` meets its contract. Assumes nothing.
use mathlib.Core.Path.{refl}
use Rattle.hv_asker.proofs.Laws.{unheard}
use Rattle.hv_blind.proofs.Laws.{dealloc_run_done, dealloc_run_no}
use Rattle.hv_blind.proofs.dealloc_contiguous.Goals as goal

pub returns-in-Err : goal.returns-in-Err
returns-in-Err c = λ w blank. unheard _ _ _ _ _ (λ s m. refl) c.from.ensures c.in-Err.ensures

pub returns-in-Ok-dealloc_contiguous : goal.returns-in-Ok-dealloc_contiguous
returns-in-Ok-dealloc_contiguous c = λ w blank. dealloc_run_done _ _ _ _ w blank _ _ c.in-Ok.ensures _ _ _ _ c.in-Ok-dealloc_contiguous.ensures

pub returns-in-Err-dealloc_contiguous : goal.returns-in-Err-dealloc_contiguous
returns-in-Err-dealloc_contiguous c = λ w blank. dealloc_run_no _ _ _ _ w blank _ _ c.in-Ok.ensures _ _ c.in-Err-dealloc_contiguous.why _ _ _ c.in-Err-dealloc_contiguous.ensures c.of_run_not_freed.ensures
