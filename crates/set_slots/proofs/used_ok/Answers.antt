-- `set_slots::used_ok` meets its contract. Assumes nothing.
use mathlib.Core.Path.{◌∙◌, sym, subst}
use mathlib.Core.Bool.{Bool, true≢false}
use Prim.Native.Nat.{◌+◌, ◌-◌, ◌*◌}
use native.Mathlib.Omega.{arith}
use borrow.Author.Tests.{eq-eqb}
use Rattle.base.specs.Says.{Says}
use Rattle.base.proofs.Says.{told, said, unsaid}
use Rattle.address.specs.declared.Region.{Region}
use Rattle.address.specs.Regions.{Valid}
use Rattle.region_words.specs.Words.{HasRegion}
use Rattle.set_slots.specs.Slots.{UsedOk}
use Rattle.set_slots.proofs.Order.{own_words, first_used, used_said}
use Rattle.set_slots.proofs.used_ok.Goals.{then-holds, else-holds}
use Rattle.set_slots.proofs.used_ok.Goals as goal

pub returns-then-i-eq0 : goal.returns-then-i-eq0
returns-then-i-eq0 c =
    let read : HasRegion c.args.z.now (c.args.at + 1 + 4 * c.args.i) c.get-r.result × Valid c.get-r.result.guest c.get-r.result.host c.get-r.result.pages =
    elim c.if-holds.branch [
      | then-holds w ↦ (said c.holds.result w.if-holds.true c.holds.ensures, said w.valid.result (sym w.value-is ∙ c.if-valid.true) w.valid.ensures)
      | else-holds w ↦ absurd (true≢false (sym c.if-valid.true ∙ (w.value-is ∙ w.if-holds.false)))
    ] in
    told (λ (b : Bool). Says b (UsedOk c.args.z.now c.args.at c.args.i)) (sym (eq-eqb c.args.i 0 c.if-i-eq0.true)) (first_used c.if-i-eq0.true c.get-r.ensures read.0 read.1)

pub returns-else-i-eq0 : goal.returns-else-i-eq0
returns-else-i-eq0 c =
    let read : HasRegion c.args.z.now (c.args.at + 1 + 4 * c.args.i) c.get-r.result × Valid c.get-r.result.guest c.get-r.result.host c.get-r.result.pages =
    elim c.if-holds.branch [
      | then-holds w ↦ (said c.holds.result w.if-holds.true c.holds.ensures, said w.valid.result (sym w.value-is ∙ c.if-valid.true) w.valid.ensures)
      | else-holds w ↦ absurd (true≢false (sym c.if-valid.true ∙ (w.value-is ∙ w.if-holds.false)))
    ] in
    used_said c.args.at (c.args.i - 1) c.follows.result (omega arith) c.get-r.ensures c.get.ensures read.0 read.1 c.follows.ensures

pub returns-else-valid : goal.returns-else-valid
returns-else-valid c =
    told (λ (b : Bool). Says b (UsedOk c.args.z.now c.args.at c.args.i)) (sym c.if-valid.false)
    (λ u.
    elim c.if-holds.branch [
      | then-holds w ↦ unsaid w.valid.result (sym w.value-is ∙ c.if-valid.false) w.valid.ensures (subst (λ (x : Region). Valid x.guest x.host x.pages) (sym c.get-r.ensures) u.valid)
      | else-holds w ↦ unsaid c.holds.result w.if-holds.false c.holds.ensures (subst (HasRegion _ _) (sym c.get-r.ensures) (own_words _ _ u.kind))
    ])
