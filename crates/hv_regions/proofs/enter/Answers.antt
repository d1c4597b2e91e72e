-- `hv_regions::enter` meets its contract. Assumes nothing.
use mathlib.Core.Path.{refl}
use Rattle.hv_asker.proofs.Laws.{unheard}
use Rattle.hv_sets.proofs.Laws.{is_not_given}
use Rattle.hv_regions.proofs.Laws.{not_listed, entered, kept_out}
use Rattle.hv_regions.proofs.enter.Goals as goal

pub returns-in-Err : goal.returns-in-Err
returns-in-Err c = λ t o w. unheard _ _ _ _ _ (λ s m. refl) c.from.ensures c.in-Err.ensures

pub returns-in-Err-is_given : goal.returns-in-Err-is_given
returns-in-Err-is_given c = λ t o w. not_listed _ _ _ _ _ c.in-Ok.ensures _ t o w c.in-Err-is_given.field-0 c.in-Err-is_given.ensures

pub returns-in-Ok-None : goal.returns-in-Ok-None
returns-in-Ok-None c = λ t o w. is_not_given _ _ _ _ _ c.in-Ok.ensures _ t o w (rw c.in-Ok-None.field-0-is at c.in-Ok-None.ensures)

pub returns-in-Ok-insert : goal.returns-in-Ok-insert
returns-in-Ok-insert c = λ t o w. entered _ _ _ _ _ c.in-Ok.ensures _ t o w _ _ (rw c.in-Ok-Some.field-0-is at c.in-Ok-Some.ensures) c.in-Ok-insert.ensures

pub returns-in-Err-insert : goal.returns-in-Err-insert
returns-in-Err-insert c = λ t o w. kept_out _ _ _ _ _ c.in-Ok.ensures _ t o w _ _ c.in-Err-insert.why _ (rw c.in-Ok-Some.field-0-is at c.in-Ok-Some.ensures) c.in-Err-insert.ensures c.of_not_inserted.ensures
