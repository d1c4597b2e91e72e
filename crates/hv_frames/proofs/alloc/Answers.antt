-- `hv_frames::alloc` meets its contract. Assumes nothing.
use mathlib.Core.Path.{refl}
use Rattle.hv_asker.proofs.Laws.{unheard}
use Rattle.hv_frames.proofs.Laws.{alloc_at, alloc_no}
use Rattle.hv_frames.proofs.alloc.Goals as goal

pub returns-in-Err : goal.returns-in-Err
returns-in-Err c = unheard _ _ _ _ _ (λ s m. refl) c.from.ensures c.in-Err.ensures

pub returns-in-Ok-alloc : goal.returns-in-Ok-alloc
returns-in-Ok-alloc c = alloc_at _ _ _ _ _ _ _ c.in-Ok.ensures _ _ _ c.in-Ok-alloc.ensures

pub returns-in-Err-No : goal.returns-in-Err-No
returns-in-Err-No c = alloc_no _ _ _ _ _ _ _ c.in-Ok.ensures c.in-Err-No.why _ _ _ (rw c.in-Err-No.field-0-is at c.in-Err-No.ensures) c.of_no_frame.ensures
