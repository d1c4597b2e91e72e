-- `hv_set_right::is_right` meets its contract. Assumes nothing.
use mathlib.Core.Path.{refl}
use native.Mathlib.Omega.{arith}
use Rattle.base.proofs.Says.{says_same}
use Rattle.hv_set_right.proofs.Laws.{says_yes, says_no, set_inside, right_empty, wrong_absent, right_given, given_all, wrong_order, not_in_order}
use Rattle.hv_set_right.proofs.is_right.Goals as goal

pub offset_bounds-zones-at : goal.offset_bounds-zones-at
offset_bounds-zones-at c = let f = c.in-Ok.ensures in let l = f.0 in record { fits = omega arith }

pub bounds-zones-at : goal.bounds-zones-at
bounds-zones-at c = let f = c.in-Ok.ensures in let l = f.0 in omega arith

pub returns-then-n-eq0 : goal.returns-then-n-eq0
returns-then-n-eq0 c = let f = c.in-Ok.ensures in says_yes _ _ c.if-n-eq0.true (right_empty _ _ _ _ _ _ _ _ c.args.which c.set_at-at.ensures f.0 f.1 refl c.if-n-eq0.true)

pub returns-else-flag-eq1 : goal.returns-else-flag-eq1
returns-else-flag-eq1 c = let f = c.in-Ok.ensures in says_no _ _ c.if-flag-eq1.false (wrong_absent _ _ _ _ _ _ _ _ c.args.which c.set_at-at.ensures f.0 f.1 refl c.if-n-eq0.false c.if-flag-eq1.false)

pub all_given-requires : goal.all_given-requires
all_given-requires c = let f = c.in-Ok.ensures in let a = f.0 in let b = f.1.few in (c.requires.0, c.requires.1, omega arith)

pub returns-then-flag-eq1 : goal.returns-then-flag-eq1
returns-then-flag-eq1 c =
    let f = c.in-Ok.ensures in
    says_same c.all_given.result
    (right_given _ _ _ _ _ _ _ _ c.args.which c.set_at-at.ensures f.0 f.1 refl c.if-flag-eq1.true)
    (given_all _ _ _ _ _ _ _ _ c.args.which c.set_at-at.ensures f.0 f.1 refl)
    c.all_given.ensures

pub returns-in-Err : goal.returns-in-Err
returns-in-Err c =
    wrong_order _ _ _ _ _ _ _ c.args.which c.set_at-at.ensures (not_in_order _ _ _ c.in-Err.field-0 (set_inside c.args.zones.now c.args.place c.args.slots _ c.args.which c.set_at-at.ensures c.requires.2) c.in-Err.ensures)
