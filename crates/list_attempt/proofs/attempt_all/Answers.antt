-- `list_attempt::attempt_all` meets its contract. Assumes nothing.
use mathlib.Core.Path.{◌≡◌, refl, sym, ◌∙◌}
use native.Mathlib.Omega.{arith}
use Rattle.request_bytes.specs.Requests.{nth_request}
use Rattle.list_attempt.proofs.Laws.{went_none, halts_here, went_on}
use Rattle.base.proofs.Choices.{is_true, is_false}
use Rattle.list_attempt.proofs.attempt_all.Goals as goal

pub loop-i-init : goal.loop-i-init
loop-i-init c = record { went = λ v b s. went_none _ _ _ _ _ s; told = record { long = refl; others = λ k d. refl } }

pub attempt_read-a-requires : goal.attempt_read-a-requires
attempt_read-a-requires c = c.requires.members.right c.loop-i.i (omega arith)

pub returns-then-not-is_done : goal.returns-then-not-is_done
returns-then-not-is_done c =
    let v = c.loop-i.invariant in
    record {
      says = (omega arith, sym c.is_done.ensures ∙ is_false c.is_done.result c.if-not-is_done.true-raw, λ w b s. halts_here _ _ _ (nth_request c.args.bytes.now c.args.p) _ _ _ (v.went w b s) _ _ (c.attempt_read-a.ensures w b));
      told = v.told;
    }

pub write_answer-requires : goal.write_answer-requires
write_answer-requires c = let v = c.loop-i.invariant.told.long in let r = c.requires.room in omega arith

pub loop-i-preserved : goal.loop-i-preserved
loop-i-preserved c =
    let v = c.loop-i.invariant in
    record {
      went = λ w b s. went_on _ _ _ (nth_request c.args.bytes.now c.args.p) _ _ _ (v.went w b s) _ _ (c.attempt_read-a.ensures w b) _ (sym c.is_done.ensures ∙ is_true c.is_done.result c.if-not-is_done.false-raw) c.write_answer.ensures.0 c.write_answer.ensures.1;
      told = record { long = c.write_answer.ensures.0.long ∙ v.told.long; others = λ k d. c.write_answer.ensures.0.others k (λ a b. d (omega arith) (omega arith)) ∙ v.told.others k d };
    }

pub returns-clause-says : goal.returns-clause-says
returns-clause-says c = λ v b s. let e : c.loop-i.i ≡ c.args.n = omega arith in rw e at (c.loop-i.invariant.went v b s)
