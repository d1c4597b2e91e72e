-- `memory_set_changes::remove_starting_at` meets its contract. Assumes nothing.
use native.Mathlib.Omega.{arith}
use mathlib.Core.Path.{refl, sym, ◌∙◌}
use Rattle.set_model.specs.Sets.{starts}
use Rattle.set_slots.proofs.Found.{none_found, found_is}
use Rattle.set_claims.proofs.Theorems.{slot_wrong}
use Rattle.memory_set_changes.proofs.Laws.{went_out}
use Rattle.memory_set_changes.proofs.remove_starting_at.Goals as goal

pub returns-then-n-i : goal.returns-then-n-i
returns-then-n-i c = let x = c.in_ok-n.ensures in (refl, x.0, none_found (starts c.args.guest) c.first_starting-i.result x.0 x.1 c.first_starting-i.ensures (omega (arith, c.if-n-i.true)))

pub returns-then-not-used_ok : goal.returns-then-not-used_ok
returns-then-not-used_ok c = let x = c.in_ok-n.ensures in (refl, slot_wrong c.first_starting-i.result x.0 x.1 (omega (arith, c.if-n-i.false)) c.if-not-used_ok.ensures)

pub returns : goal.returns
returns c =
    let x = c.in_ok-n.ensures in
    let found = c.first_starting-i.ensures in
    went_out (starts c.args.guest) x.0 x.1 found (omega (arith, c.if-n-i.false)) (c.get-r.ensures ∙ sym (found_is (starts c.args.guest) c.first_starting-i.result x.0 x.1 found (omega (arith, c.if-n-i.false)))) c.take_out.ensures
