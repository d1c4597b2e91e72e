-- `hv_zones::add_zone` meets its contract. Assumes nothing.
use native.Mathlib.Omega.{arith}
use Rattle.hv_zones.proofs.Laws.{not_found, was_there, comes}
use Rattle.hv_zones.proofs.add_zone.Goals as goal

pub offset_bounds-zones-zone : goal.offset_bounds-zones-zone
offset_bounds-zones-zone c = let h = rw c.in-Ok-Away.field-0-is at c.in-Ok-Away.ensures in let e = h.1.0.place in let s = h.1.0.slots in let i = h.1.0.inside in omega arith

pub bounds-zones-zone : goal.bounds-zones-zone
bounds-zones-zone c = let h = rw c.in-Ok-Away.field-0-is at c.in-Ok-Away.ensures in let e = h.1.0.place in let s = h.1.0.slots in let i = h.1.0.inside in omega arith

pub returns-in-Err : goal.returns-in-Err
returns-in-Err c = λ t o w. not_found _ _ t o w _ _ _ _ c.from-in-Err.ensures c.from.ensures c.in-Err.ensures

pub returns-in-Ok-Here : goal.returns-in-Ok-Here
returns-in-Ok-Here c = λ t o w. let h = rw c.in-Ok-Here.field-0-is at c.in-Ok-Here.ensures in was_there _ _ t o w _ _ h.1.0 h.1.1

pub returns-in-Ok-Away : goal.returns-in-Ok-Away
returns-in-Ok-Away c = λ t o w. let h = rw c.in-Ok-Away.field-0-is at c.in-Ok-Away.ensures in comes _ _ t o w _ _ h.1.0 h.1.1
