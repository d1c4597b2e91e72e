-- `memory_set_changes::remove` meets its contract. Assumes nothing.
use native.Mathlib.Omega.{arith}
use mathlib.Core.Path.{refl}
use Rattle.set_model.specs.Sets.{same}
use Rattle.set_slots.proofs.Found.{none_found}
use Rattle.set_claims.proofs.Theorems.{slot_wrong}
use Rattle.memory_set_changes.proofs.Laws.{went_out, same_found}
use Rattle.memory_set_changes.proofs.remove.Goals as goal

pub returns-then-n-p : goal.returns-then-n-p
returns-then-n-p c = let x = c.in_ok-n.ensures in (refl, x.0, none_found (same c.args.r) c.first_same-p.result x.0 x.1 c.first_same-p.ensures (omega (arith, c.if-n-p.true)))

pub returns-then-not-used_ok : goal.returns-then-not-used_ok
returns-then-not-used_ok c = let x = c.in_ok-n.ensures in (refl, slot_wrong c.first_same-p.result x.0 x.1 (omega (arith, c.if-n-p.false)) c.if-not-used_ok.ensures)

pub returns : goal.returns
returns c =
    let x = c.in_ok-n.ensures in
    let found = c.first_same-p.ensures in
    went_out (same c.args.r) x.0 x.1 found (omega (arith, c.if-n-p.false)) (same_found c.args.r x.0 x.1 found (omega (arith, c.if-n-p.false))) c.take_out.ensures
