-- `hv_frames::dealloc` meets its contract. Assumes nothing.
use mathlib.Core.Path.{refl}
use Rattle.hv_asker.proofs.Laws.{unheard}
use Rattle.hv_frames.proofs.Laws.{dealloc_done, dealloc_no}
use Rattle.hv_frames.proofs.dealloc.Goals as goal

pub returns-in-Err : goal.returns-in-Err
returns-in-Err c = unheard _ _ _ _ _ (λ s m. refl) c.from.ensures c.in-Err.ensures

pub returns-in-Ok-dealloc : goal.returns-in-Ok-dealloc
returns-in-Ok-dealloc c = dealloc_done _ _ _ _ _ _ _ c.in-Ok.ensures _ _ _ _ c.in-Ok-dealloc.ensures

pub returns-in-Err-No : goal.returns-in-Err-No
returns-in-Err-No c = dealloc_no _ _ _ _ _ _ _ c.in-Ok.ensures _ c.in-Err-No.why _ _ _ _ (rw c.in-Err-No.field-0-is at c.in-Err-No.ensures) c.of_not_freed.ensures
