-- `hv_blind_whole::remove_zone_whole` meets its contract. Assumes nothing.
use native.Mathlib.Omega.{arith}
use mathlib.Core.Path.{refl}
use Rattle.hv_asker.proofs.Laws.{unheard}
use Rattle.hv_blind_whole.proofs.Laws.{unreleased, whole}
use Rattle.hv_blind_whole.proofs.remove_zone_whole.Goals as goal

pub overflow_mul-c : goal.overflow_mul-c
overflow_mul-c c = let h = c.in-Ok.ensures in let e = h.place in let s = h.slots in let i = h.inside in omega arith

pub overflow_add-c : goal.overflow_add-c
overflow_add-c c = let h = c.in-Ok.ensures in let e = h.place in let s = h.slots in let i = h.inside in omega arith

pub overflow_add-c-in-Ok-release_all : goal.overflow_add-c-in-Ok-release_all
overflow_add-c-in-Ok-release_all c = let h = c.in-Ok.ensures in let e = h.place in let s = h.slots in let i = h.inside in omega arith

pub zero-requires : goal.zero-requires
zero-requires c = let h = c.in-Ok.ensures in let e = h.place in let s = h.slots in let i = h.inside in omega arith

pub returns-in-Err : goal.returns-in-Err
returns-in-Err c = λ w blank. unheard _ _ _ _ _ (λ s m. refl) c.from.ensures c.in-Err.ensures

pub returns-in-Ok-release_all : goal.returns-in-Ok-release_all
returns-in-Ok-release_all c = λ w blank. whole _ _ _ _ w blank _ _ c.in-Ok.ensures _ _ _ c.in-Ok-release_all.ensures c.zero.ensures

pub returns-in-Err-release_all : goal.returns-in-Err-release_all
returns-in-Err-release_all c = λ w blank. unreleased _ _ _ _ w blank _ _ c.in-Ok.ensures _ _ _ c.in-Err-release_all.ensures
