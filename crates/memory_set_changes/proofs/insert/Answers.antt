-- `memory_set_changes::insert` meets its contract. Assumes nothing.
use native.Mathlib.Omega.{arith}
use mathlib.Core.Path.{refl}
use Rattle.set_model.proofs.Pages.{enter_maps}
use Rattle.set_shifts.proofs.Changes.{inserted}
use Rattle.set_claims.proofs.Theorems.{counted_wrong}
use Rattle.memory_set_changes.proofs.insert.Goals as goal

pub returns-then-not-is_right : goal.returns-then-not-is_right
returns-then-not-is_right c = let x = c.in_ok-n.ensures in (refl, counted_wrong c.first_above-p.result x.0.readable x.1 c.if-not-is_right.ensures)

pub returns : goal.returns
returns c =
    let x = c.in_ok-n.ensures in
    record {
      fitting = x.0;
      room = omega (arith, x.1, x.2);
      became = inserted x.0.readable x.1 x.2 c.first_above-p.ensures c.shift_up.ensures c.put.ensures x.0.valid x.0.alone;
      maps = enter_maps _ _;
    }
