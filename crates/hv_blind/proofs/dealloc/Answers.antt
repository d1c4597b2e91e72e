-- `hv_blind::dealloc` meets its contract. Assumes nothing.
use mathlib.Core.Path.{refl}
use Rattle.hv_asker.proofs.Laws.{unheard}
use Rattle.hv_blind.proofs.Laws.{dealloc_done, dealloc_no}
use Rattle.hv_blind.proofs.dealloc.Goals as goal

pub returns-in-Err : goal.returns-in-Err
returns-in-Err c = λ w blank. unheard _ _ _ _ _ (λ s m. refl) c.from.ensures c.in-Err.ensures

pub returns-in-Ok-dealloc : goal.returns-in-Ok-dealloc
returns-in-Ok-dealloc c = λ w blank. dealloc_done _ _ _ _ w blank _ _ c.in-Ok.ensures _ _ _ c.in-Ok-dealloc.ensures

pub returns-in-Err-dealloc : goal.returns-in-Err-dealloc
returns-in-Err-dealloc c = λ w blank. dealloc_no _ _ _ _ w blank _ _ c.in-Ok.ensures _ c.in-Err-dealloc.why _ _ _ c.in-Err-dealloc.ensures c.of_not_freed.ensures
