-- `set_claims::may_insert` meets its contract. Assumes nothing.
use native.Mathlib.Omega.{arith}
use Rattle.std.specs.Prelude.{Err}
use Rattle.set_model.specs.Sets.{meets}
use Rattle.set_slots.proofs.Found.{none_found, some_found}
use Rattle.set_claims.specs.Claims.{Fitting, MayInsertSays}
use Rattle.set_claims.specs.declared.NotInserted.{NotInserted}
use Rattle.set_claims.proofs.may_insert.Goals as goal

pub returns-then-first_meeting-n : goal.returns-then-first_meeting-n
returns-then-first_meeting-n c =
    let x = c.in_ok-n.ensures in
    let overlaps : MayInsertSays c.args.words.now c.args.at c.args.slots c.args.r (Err NotInserted.Overlap) =
    (x.0, c.in_ok-validity.ensures, some_found (meets c.args.r) c.first_meeting.result x.0 x.1 c.first_meeting.ensures c.if-first_meeting-n.true) in
    overlaps

pub returns-then-n-slots : goal.returns-then-n-slots
returns-then-n-slots c =
    let x = c.in_ok-n.ensures in
    let fits : Fitting c.args.words.now c.args.at c.args.slots c.args.r =
    record { readable = x.0; valid = c.in_ok-validity.ensures; alone = none_found (meets c.args.r) c.first_meeting.result x.0 x.1 c.first_meeting.ensures (omega (arith, c.if-first_meeting-n.false)) } in
    (fits, omega (arith, x.1, c.if-n-slots.true))

pub returns : goal.returns
returns c =
    let x = c.in_ok-n.ensures in
    let few = x.0.few in
    let fits : Fitting c.args.words.now c.args.at c.args.slots c.args.r =
    record { readable = x.0; valid = c.in_ok-validity.ensures; alone = none_found (meets c.args.r) c.first_meeting.result x.0 x.1 c.first_meeting.ensures (omega (arith, c.if-first_meeting-n.false)) } in
    (fits, x.1, omega (arith, x.1, c.if-n-slots.false))
