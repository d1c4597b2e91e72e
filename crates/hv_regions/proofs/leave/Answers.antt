-- `hv_regions::leave` meets its contract. Assumes nothing.
use mathlib.Core.Path.{refl}
use Rattle.hv_asker.proofs.Laws.{unheard}
use Rattle.hv_regions.proofs.Laws.{went, was_not, no_set_there}
use Rattle.hv_regions.proofs.leave.Goals as goal

pub returns-in-Err : goal.returns-in-Err
returns-in-Err c = λ t o w. unheard _ _ _ _ _ (λ s m. refl) c.from.ensures c.in-Err.ensures

pub returns-in-Ok-remove : goal.returns-in-Ok-remove
returns-in-Ok-remove c = λ t o w. went _ _ _ _ _ c.in-Ok.ensures _ t o w _ c.in-Ok-remove.ensures

pub returns-in-Err-NotThere : goal.returns-in-Err-NotThere
returns-in-Err-NotThere c = λ t o w. was_not _ _ _ _ _ c.in-Ok.ensures _ t o w _ (rw c.in-Err-NotThere.field-0-is at c.in-Err-NotThere.ensures)

pub returns-in-Err-Bad : goal.returns-in-Err-Bad
returns-in-Err-Bad c = λ t o w. no_set_there _ _ _ _ _ c.in-Ok.ensures _ t o w _ c.in-Err-Bad.field-0-0 (rw c.in-Err-Bad.field-0-is at c.in-Err-Bad.ensures)
