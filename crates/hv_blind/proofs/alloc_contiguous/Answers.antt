-- `hv_blind::alloc_contiguous` meets its contract. Assumes nothing.
use mathlib.Core.Path.{refl}
use Rattle.hv_asker.proofs.Laws.{unheard}
use Rattle.hv_blind.proofs.Laws.{run_at, run_no}
use Rattle.hv_blind.proofs.alloc_contiguous.Goals as goal

pub returns-in-Err : goal.returns-in-Err
returns-in-Err c = λ w blank. unheard _ _ _ _ _ (λ s m. refl) c.from.ensures c.in-Err.ensures

pub returns-in-Ok-alloc_contiguous : goal.returns-in-Ok-alloc_contiguous
returns-in-Ok-alloc_contiguous c = λ w blank. run_at _ _ _ _ w blank _ _ c.in-Ok.ensures _ _ _ _ _ c.in-Ok-alloc_contiguous.ensures

pub returns-in-Err-alloc_contiguous : goal.returns-in-Err-alloc_contiguous
returns-in-Err-alloc_contiguous c = λ w blank. run_no _ _ _ _ w blank _ _ c.in-Ok.ensures _ _ c.in-Err-alloc_contiguous.why _ _ _ c.in-Err-alloc_contiguous.ensures c.of_no_run.ensures
