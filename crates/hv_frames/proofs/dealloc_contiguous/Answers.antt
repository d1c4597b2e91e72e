-- `hv_frames::dealloc_contiguous` meets its contract. Assumes nothing.
use mathlib.Core.Path.{refl}
use Rattle.hv_asker.proofs.Laws.{unheard}
use Rattle.hv_frames.proofs.Laws.{dealloc_run_done, dealloc_run_no}
use Rattle.hv_frames.proofs.dealloc_contiguous.Goals as goal

pub returns-in-Err : goal.returns-in-Err
returns-in-Err c = unheard _ _ _ _ _ (λ s m. refl) c.from.ensures c.in-Err.ensures

pub returns-in-Ok-dealloc_contiguous : goal.returns-in-Ok-dealloc_contiguous
returns-in-Ok-dealloc_contiguous c = dealloc_run_done _ _ _ _ _ _ _ c.in-Ok.ensures _ _ _ _ _ c.in-Ok-dealloc_contiguous.ensures

pub returns-in-Err-No : goal.returns-in-Err-No
returns-in-Err-No c = dealloc_run_no _ _ _ _ _ _ _ c.in-Ok.ensures _ _ c.in-Err-No.why _ _ _ _ (rw c.in-Err-No.field-0-is at c.in-Err-No.ensures) c.of_run_not_freed.ensures
