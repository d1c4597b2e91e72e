-- `memory_set::translate` meets its contract. Assumes nothing.
use native.Mathlib.Omega.{arith}
use Rattle.base.proofs.Says.{told}
use Rattle.address.specs.Regions.{TranslateSays}
use Rattle.set_model.specs.Sets.{covers}
use Rattle.set_slots.proofs.Found.{none_found}
use Rattle.set_claims.proofs.Theorems.{slot_wrong}
use Rattle.memory_set.proofs.Laws.{reaches, translates}
use Rattle.memory_set.proofs.translate.Goals as goal

pub returns-then-n-i : goal.returns-then-n-i
returns-then-n-i c = let x = c.in_ok-n.ensures in (x.0, none_found (covers c.args.addr) c.first_covering-i.result x.0 x.1 c.first_covering-i.ensures (omega (arith, c.if-n-i.true)))

pub returns-then-not-used_ok : goal.returns-then-not-used_ok
returns-then-not-used_ok c = let x = c.in_ok-n.ensures in slot_wrong c.first_covering-i.result x.0 x.1 (omega (arith, c.if-n-i.false)) c.if-not-used_ok.ensures

pub unwrap-requires : goal.unwrap-requires
unwrap-requires c =
    let x = c.in_ok-n.ensures in
    translates c.args.addr x.0 x.1 c.first_covering-i.ensures (omega (arith, c.if-n-i.false)) c.get-r.ensures c.if-not-used_ok.ensures c.translate.result c.translate.ensures

pub returns : goal.returns
returns c =
    let x = c.in_ok-n.ensures in
    let h = told (TranslateSays c.get-r.result.guest c.get-r.result.host c.get-r.result.pages c.args.addr) c.unwrap.ensures c.translate.ensures in
    reaches c.args.addr x.0 x.1 c.first_covering-i.ensures (omega (arith, c.if-n-i.false)) c.get-r.ensures h.1
