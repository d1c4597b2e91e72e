-- `hv_regions::translate` meets its contract. Assumes nothing.
use mathlib.Core.Path.{refl}
use Rattle.hv_asker.proofs.Laws.{unheard}
use Rattle.hv_regions.proofs.Laws.{host_found, host_none, host_bad}
use Rattle.hv_regions.proofs.translate.Goals as goal

pub returns-in-Err : goal.returns-in-Err
returns-in-Err c = λ t o w. unheard _ _ _ _ _ (λ s m. refl) c.from.ensures c.in-Err.ensures

pub returns-in-Ok-translate : goal.returns-in-Ok-translate
returns-in-Ok-translate c = λ t o w. host_found _ _ _ _ _ c.in-Ok.ensures t o w _ _ c.in-Ok-translate.ensures

pub returns-in-Err-NoRegion : goal.returns-in-Err-NoRegion
returns-in-Err-NoRegion c = λ t o w. host_none _ _ _ _ _ c.in-Ok.ensures t o w _ (rw c.in-Err-NoRegion.field-0-is at c.in-Err-NoRegion.ensures)

pub returns-in-Err-Bad : goal.returns-in-Err-Bad
returns-in-Err-Bad c = λ t o w. host_bad _ _ _ _ _ c.in-Ok.ensures t o w _ c.in-Err-Bad.field-0-0 (rw c.in-Err-Bad.field-0-is at c.in-Err-Bad.ensures)
