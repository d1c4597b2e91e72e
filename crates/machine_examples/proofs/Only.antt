-- Which answers the requests of sound memories can get: no others. Assumes nothing.
use mathlib.Core.Path.{◌≡◌, ap, subst}
use mathlib.Core.List.{List, ◌∷◌}
use Prim.Native.Nat.{ℕ}
use lib.Dec.{ltb}
use Rattle.base.proofs.Choices.{by}
use Rattle.set_model.specs.Sets.{same}
use Rattle.machine.specs.declared.Request.{Request}
use Rattle.machine.specs.declared.Reason.TheVariants.{NoMachine}
use Rattle.machine.specs.declared.Answer.{Answer}
use Rattle.machine.specs.declared.Answer.TheVariants.{Done, Address, No}
use Rattle.machine.specs.State.{Plan, State, Outcome, refuse}
use Rattle.machine.specs.Step.{machine_of, present, absent, step}
use Rattle.hv_state.specs.Memory.{Mem, plan_of, decode, Sound}
use Rattle.hv_state.specs.Serving.{Served}

-- the answer, with any address as 0
abbrev pub plain : Answer → Answer
plain Done = Done
plain (Address x) = Address 0
plain (No why) = No why
plain Answer.Corrupt = Answer.Corrupt

-- the answer is one of these
pub data OneOf (a : Answer) : List Answer → Type 0 where
  Here : {x : Answer} {xs : List Answer} → plain a ≡ x → OneOf a (x ∷ xs)
  There : {x : Answer} {xs : List Answer} → OneOf a xs → OneOf a (x ∷ xs)

-- the outcome's answer is
pub record Gives (l : List Answer) (o : Outcome) : Type 0 where
  pub is : OneOf o.answer l

-- it is the first, the second and so on of the list
pub at_first : {x : Answer} {xs : List Answer} {o : Outcome} → plain o.answer ≡ x → Gives (x ∷ xs) o
at_first e = record { is = Here e }

pub at_next : {x : Answer} {xs : List Answer} {o : Outcome} → Gives xs o → Gives (x ∷ xs) o
at_next g = record { is = There g.is }

-- ---- what a machine that is there, and one that is not, can be answered

-- by whether the number is a machine's, and whether the machine is there
pub asked : {l : List Answer} (p : Plan) (s : State) (number : ℕ) (q : Request) → Gives l (refuse NoMachine s)
    → ((m : ℕ) → Gives l (present p s m q)) → ((m : ℕ) → Gives l (absent s m q)) → Gives l (step p s number q)
unfolding step
asked p s number q nobody here away =
    let m = machine_of p.config number in
    by (Gives _) (ltb m p.config.machines) _ _ (λ e. by (Gives _) (s.present m) _ _ (λ f. here m) (λ f. away m)) (λ e. nobody)

-- what is answered where the memories are sound
pub served : {l : List Answer} (b : Mem) (number : ℕ) (q : Request) (b' : Mem) (a : Answer) → Sound b → Served b number q b' a
    → Gives l (step (plan_of b) (decode b) number q) → OneOf a l
served {l = l} b number q b' a s v g = subst (λ (x : Answer). OneOf x l) (ap (λ (o : Outcome). o.answer) (v.same s)) g.is
