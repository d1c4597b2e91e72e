-- A list of one request: done where the request is, and stopped where it is refused; and a list is never stopped by an answer that is no
-- refusal. Assumes nothing.
use mathlib.Core.Path.{◌≡◌, refl, sym, ◌∙◌, ap, subst}
use mathlib.Core.Bool.{false}
use mathlib.Core.List.{List, [], ◌∷◌}
use Prim.Native.Nat.{ℕ}
use Rattle.base.specs.Choices.{pick}
use Rattle.base.proofs.Choices.{by}
use Rattle.machine.specs.declared.Request.{Request}
use Rattle.machine.specs.declared.Reason.{Reason}
use Rattle.machine.specs.declared.Answer.{Answer}
use Rattle.machine.specs.State.{Plan, State, Outcome}
use Rattle.machine.specs.Step.{step}
use Rattle.machine.specs.Lists.{Call.All, Reply, Result, Tried, Tried.Through, Tried.Halted, is_done, before, tries, all_or_none}
use Rattle.hv_state.specs.Memory.{Mem, plan_of, decode, Sound}
use Rattle.hv_state.specs.Serving.{Served, CallServed}

-- what comes of a list of one request, from what comes of the request
abbrev of_one : State → Outcome → Result
of_one s o = all_or_none s (pick (is_done o.answer) (before o.answer (Through [] o.state)) (Halted 0 o.answer))

module _ (b : Mem) (number : ℕ) (q : Request) (b' : Mem) where
  pub one_done : Served b number q b' Answer.Done → CallServed b number (All (q ∷ [])) b' (Reply.Done ((step (plan_of b) (decode b) number q).answer ∷ []))
  one_done v =
      record {
        kept = λ u. absurd u;
        same = λ s. ap (of_one (decode b)) (v.same s) ∙ ap (λ (o : Outcome). record { reply = Reply.Done (o.answer ∷ []); state = decode b' }) (sym (v.same s));
        sound = v.sound;
        plan = v.plan;
      }

module _ (b : Mem) (number : ℕ) (q : Request) where
  pub one_stopped : (why : Reason) → Served b number q b (Answer.No why) → CallServed b number (All (q ∷ [])) b (Reply.Stopped 0 (Answer.No why))
  one_stopped why v = record { kept = λ u. refl; same = λ s. ap (of_one (decode b)) (v.same s); sound = λ s. s; plan = λ s. refl }

  pub one_corrupt : (Sound b → ⊥) → CallServed b number (All (q ∷ [])) b (Reply.Stopped 0 Answer.Corrupt)
  one_corrupt n = record { kept = λ u. refl; same = λ s. absurd (n s); sound = λ s. s; plan = λ s. refl }

-- ---- what stops a list

-- what was tried is halted by a refusal
abbrev HaltedRight : Tried → Type 0
HaltedRight (Through l s) = Unit
HaltedRight (Halted i a) = is_done a ≡ false

still : (a : Answer) (t : Tried) → HaltedRight t → HaltedRight (before a t)
still a (Through l s) h = tt
still a (Halted i why) h = h

halts : (p : Plan) (s : State) (number : ℕ) (qs : List Request) → HaltedRight (tries p s number qs)
halts p s number [] = tt
halts p s number (q ∷ qs) =
    by HaltedRight (is_done (step p s number q).answer) _ _ (λ e. still (step p s number q).answer (tries p (step p s number q).state number qs) (halts p (step p s number q).state number qs)) (λ e. e)

-- a reply that a list was stopped has a refusal
abbrev StoppedRight : Reply → Type 0
StoppedRight (Reply.Answered a) = Unit
StoppedRight (Reply.Done l) = Unit
StoppedRight (Reply.Stopped i a) = is_done a ≡ false

replied : (s : State) (t : Tried) → HaltedRight t → StoppedRight (all_or_none s t).reply
replied s (Through l s') h = tt
replied s (Halted i a) h = h

pub stopped_right : (b : Mem) (number : ℕ) (qs : List Request) (b' : Mem) (r : Reply) → Sound b → CallServed b number (All qs) b' r → StoppedRight r
stopped_right b number qs b' r s v =
    subst StoppedRight (ap (λ (x : Result). x.reply) (v.same s)) (replied (decode b) (tries (plan_of b) (decode b) number qs) (halts (plan_of b) (decode b) number qs))
