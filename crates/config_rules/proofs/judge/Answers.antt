-- `config_rules::judge` meets its contract. Assumes nothing.
use Rattle.address.specs.Regions.{Valid}
use Rattle.config_view.specs.View.{viewed}
use Rattle.config_rules.proofs.Laws.{one_machine, guest_shared}
use Rattle.config_rules.proofs.judge.Goals as goal

pub returns-then-m-m2 : goal.returns-then-m-m2
returns-then-m-m2 c =
    let v = viewed c.args.v.now in
    let p : Valid 0 v.pool.host v.pool.pages = rw c.pool-pool.ensures at c.in_default-validity.ensures in
    ((((c.in_default.ensures, c.in_default-not_valid.ensures), p), c.in_default-clash_of.ensures), one_machine v _ _ _ _ c.in-Some-clash_of-2.ensures c.if-m-m2.true)

pub returns-in-Some-clash_of-2 : goal.returns-in-Some-clash_of-2
returns-in-Some-clash_of-2 c =
    let v = viewed c.args.v.now in
    let p : Valid 0 v.pool.host v.pool.pages = rw c.pool-pool.ensures at c.in_default-validity.ensures in
    ((((c.in_default.ensures, c.in_default-not_valid.ensures), p), c.in_default-clash_of.ensures), c.in-Some-clash_of-2.ensures, c.if-m-m2.false)

pub returns-in-Some-clash_of-3 : goal.returns-in-Some-clash_of-3
returns-in-Some-clash_of-3 c =
    let v = viewed c.args.v.now in
    let p : Valid 0 v.pool.host v.pool.pages = rw c.pool-pool.ensures at c.in_default-validity.ensures in
    (((((c.in_default.ensures, c.in_default-not_valid.ensures), p), c.in_default-clash_of.ensures), c.in_default-clash_of-2.ensures), guest_shared v _ _ _ _ c.in-Some-clash_of-3.ensures)
