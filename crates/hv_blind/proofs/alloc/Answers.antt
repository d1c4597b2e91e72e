-- `hv_blind::alloc` meets its contract. Assumes nothing.
use mathlib.Core.Path.{refl}
use Rattle.hv_asker.proofs.Laws.{unheard}
use Rattle.hv_blind.proofs.Laws.{alloc_at, alloc_no}
use Rattle.hv_blind.proofs.alloc.Goals as goal

pub returns-in-Err : goal.returns-in-Err
returns-in-Err c = λ w blank. unheard _ _ _ _ _ (λ s m. refl) c.from.ensures c.in-Err.ensures

pub returns-in-Ok-alloc : goal.returns-in-Ok-alloc
returns-in-Ok-alloc c = λ w blank. alloc_at _ _ _ _ w blank _ _ c.in-Ok.ensures _ _ _ c.in-Ok-alloc.ensures

pub returns-in-Err-alloc : goal.returns-in-Err-alloc
returns-in-Err-alloc c = λ w blank. alloc_no _ _ _ _ w blank _ _ c.in-Ok.ensures c.in-Err-alloc.why _ _ _ c.in-Err-alloc.ensures c.of_no_frame.ensures
