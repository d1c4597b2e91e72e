-- `hv_zones::remove_zone` meets its contract. Assumes nothing.
use native.Mathlib.Omega.{arith}
use mathlib.Core.Path.{refl}
use Rattle.hv_asker.proofs.Laws.{unheard}
use Rattle.hv_zones.proofs.Laws.{sets_corrupt, has_regions, has_frames, goes}
use Rattle.hv_zones.proofs.remove_zone.Goals as goal

pub has_no_region-requires : goal.has_no_region-requires
has_no_region-requires c = let h = c.in-Ok.ensures in let e = h.1.place in let s = h.1.slots in let i = h.1.inside in omega arith

pub overflow_cast-zone : goal.overflow_cast-zone
overflow_cast-zone c = let h = c.in-Ok.ensures in let e = h.1.index in let l = h.1.machine in omega arith

pub has_no_frame-requires : goal.has_no_frame-requires
has_no_frame-requires c = let h = c.in-Ok.ensures in let e = h.1.index in let l = h.1.machine in omega arith

pub offset_bounds-zones-zone : goal.offset_bounds-zones-zone
offset_bounds-zones-zone c = let h = c.in-Ok.ensures in let e = h.1.place in let s = h.1.slots in let i = h.1.inside in omega arith

pub bounds-zones-zone : goal.bounds-zones-zone
bounds-zones-zone c = let h = c.in-Ok.ensures in let e = h.1.place in let s = h.1.slots in let i = h.1.inside in omega arith

pub returns-in-Err : goal.returns-in-Err
returns-in-Err c = λ w. unheard _ _ _ _ _ (λ s m. refl) c.from.ensures c.in-Err.ensures

pub returns-in-Err-has_no_region : goal.returns-in-Err-has_no_region
returns-in-Err-has_no_region c = λ w. let h = c.in-Ok.ensures in sets_corrupt _ _ _ _ w _ _ h.1 h.0 _ c.in-Err-has_no_region.ensures

pub returns-in-Ok-false : goal.returns-in-Ok-false
returns-in-Ok-false c = λ w. let h = c.in-Ok.ensures in has_regions _ _ _ _ w _ _ h.1 h.0 (rw c.in-Ok-false.field-0-test at c.in-Ok-false.ensures)

pub returns-in-Ok-false-has_no_frame : goal.returns-in-Ok-false-has_no_frame
returns-in-Ok-false-has_no_frame c = λ w. let h = c.in-Ok.ensures in let e = h.1.index in let l = h.1.machine in has_frames _ _ _ _ w _ _ h.1 h.0 _ (omega arith) (rw c.in-Ok-false-has_no_frame.field-0-test at c.in-Ok-false-has_no_frame.ensures)

pub returns-in-Ok-true-has_no_frame : goal.returns-in-Ok-true-has_no_frame
returns-in-Ok-true-has_no_frame c = λ w. let h = c.in-Ok.ensures in let e = h.1.index in let l = h.1.machine in goes _ _ _ _ w _ _ h.1 h.0 _ (omega arith) (rw c.in-Ok-true.field-0-test at c.in-Ok-true.ensures) (rw c.in-Ok-true-has_no_frame.field-0-test at c.in-Ok-true-has_no_frame.ensures)
