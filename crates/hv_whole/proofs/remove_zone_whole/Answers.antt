-- `hv_whole::remove_zone_whole` meets its contract. Assumes nothing.
use native.Mathlib.Omega.{arith}
use mathlib.Core.Path.{refl}
use Rattle.base.proofs.Says.{told}
use Rattle.hv_asker.proofs.Laws.{unheard}
use Rattle.hv_whole.specs.Freeing.{FreedSays}
use Rattle.base.proofs.Choices.{is_true, is_false}
use Rattle.hv_whole.proofs.Laws.{not_freed, whole_served}
use Rattle.hv_whole.proofs.remove_zone_whole.Goals as goal

pub returns-then-not-free_all : goal.returns-then-not-free_all
returns-then-not-free_all c = not_freed _ _ _ _ _ _ _ c.in-Ok.ensures _ _ _ (told (FreedSays _ _ _ _ _ _ _ _) (is_false c.free_all.result c.if-not-free_all.true-raw) c.free_all.ensures)

pub overflow_mul-c : goal.overflow_mul-c
overflow_mul-c c = let h = c.in-Ok.ensures in let e = h.place in let s = h.slots in let i = h.inside in omega arith

pub overflow_add-c : goal.overflow_add-c
overflow_add-c c = let h = c.in-Ok.ensures in let e = h.place in let s = h.slots in let i = h.inside in omega arith

pub overflow_add-c-in-Ok : goal.overflow_add-c-in-Ok
overflow_add-c-in-Ok c = let h = c.in-Ok.ensures in let e = h.place in let s = h.slots in let i = h.inside in omega arith

pub zero-requires : goal.zero-requires
zero-requires c = let h = c.in-Ok.ensures in let e = h.place in let s = h.slots in let i = h.inside in omega arith

pub returns-in-Err : goal.returns-in-Err
returns-in-Err c = unheard _ _ _ _ _ (λ s m. refl) c.from.ensures c.in-Err.ensures

pub returns-else-not-free_all : goal.returns-else-not-free_all
returns-else-not-free_all c = whole_served _ _ _ _ _ _ _ c.in-Ok.ensures _ _ _ _ (told (FreedSays _ _ _ _ _ _ _ _) (is_true c.free_all.result c.if-not-free_all.false-raw) c.free_all.ensures) c.zero.ensures
