-- One more request of a list. Assumes nothing.
use mathlib.Core.Path.{◌≡◌, refl, sym, ◌∙◌, ap, subst}
use mathlib.Core.Bool.{true}
use mathlib.Core.List.{List}
use Prim.Native.Nat.{ℕ, ◌+◌, ◌*◌, ◌≤◌, ◌<◌}
use lib.ListN.{length, set, length-set}
use lib.Seq.{get_or-set_same, get_or-set_other}
use native.Mathlib.Decide.{dec_lt}
use native.Mathlib.Numerals.{add-one}
use native.Mathlib.Omega.{arith}
use Rattle.base.specs.Ranges.{Only}
use Rattle.machine.specs.declared.Request.{Request}
use Rattle.machine.specs.declared.Answer.{Answer}
use Rattle.machine.specs.State.{Outcome, out}
use Rattle.machine.specs.Step.{step}
use Rattle.machine.specs.Lists.{is_done}
use Rattle.machine_codes.specs.Codes.{answer_code, address_in}
use Rattle.list_model.specs.Carrying.{state_after, answer_to}
use Rattle.hv_state.specs.Memory.{Mem, plan_of, decode, Sound}
use Rattle.hv_state.specs.Serving.{Served}
use Rattle.hv_blind.specs.Blind.{ServedBlind}
use Rattle.list_attempt.specs.Attempting.{Told, Went, Halts}

-- a code and an address are written for request k
pub wrote : (z : List ℕ) (at k x y : ℕ) (a : Answer) → at + 2 * k + 2 ≤ length z → x ≡ answer_code a → y ≡ address_in a 0 → Only z (at + 2 * k) (at + 2 * k + 2) (set (set z (at + 2 * k) x) (at + 2 * k + 1) y) × Told (set (set z (at + 2 * k) x) (at + 2 * k + 1) y) at k a
wrote z at k x y a l e f =
    let p = at + 2 * k in
    let long = length-set z p x in (
      record {
        long = length-set (set z p x) (p + 1) y ∙ long;
        others = λ i d. get_or-set_other (set z p x) (p + 1) i y 0 (λ q. d (omega (arith, q)) (omega (arith, q))) ∙ get_or-set_other z p i x 0 (λ q. d (omega (arith, q)) (omega (arith, q)));
      },
      record {
        code = get_or-set_other (set z p x) (p + 1) p y 0 (λ q. omega (arith, q)) ∙ get_or-set_same z p x 0 (omega arith) ∙ e;
        address = get_or-set_same (set z p x) (p + 1) y 0 (omega arith) ∙ f;
      },
    )

-- before the first request
pub went_none : (b : Mem) (number : ℕ) (f : ℕ → Request) (buffer : List ℕ) (at : ℕ) → Sound b → Went b number f 0 b buffer at
went_none b number f buffer at s = record { sound = s; plan = refl; state = refl; done = λ k l. absurd (omega arith); told = λ k l. absurd (omega arith) }

module _ (b b' : Mem) (number : ℕ) (f : ℕ → Request) (i : ℕ) (buffer : List ℕ) (at : ℕ) (w : Went b number f i b' buffer at) (b'' : Mem) (a : Answer) (v : Served b' number (f i) b'' a) where
  -- what request i is answered, and makes
  stepped : step (plan_of b) (state_after (plan_of b) (decode b) number f i) number (f i) ≡ out a (decode b'')
  stepped = sym (λ j. step (w.plan j) (w.state j) number (f i)) ∙ v.same w.sound

  answered : answer_to (plan_of b) (decode b) number f i ≡ a
  answered = ap (λ (o : Outcome). o.answer) stepped

  -- it is refused
  pub halts_here : Halts b number f i a
  halts_here = record { done = w.done; answer = answered }

  -- it is done, and its answer is written
  pub went_on : (buffer' : List ℕ) → is_done a ≡ true → Only buffer (at + 2 * i) (at + 2 * i + 2) buffer' → Told buffer' at i a → Went b number f (i + 1) b'' buffer' at
  went_on buffer' d o t =
      record {
        sound = v.sound w.sound;
        plan = v.plan w.sound ∙ w.plan;
        state = sym (ap (λ (x : Outcome). x.state) stepped) ∙ ap (state_after (plan_of b) (decode b) number f) (sym (add-one i));
        done = λ k l. each k l (dec_lt k i);
        told = λ k l. every k l (dec_lt k i);
      }
    where
      each : (k : ℕ) → k < i + 1 → Dec (k < i) → is_done (answer_to (plan_of b) (decode b) number f k) ≡ true
      each k l (yes h) = w.done k h
      each k l (no h) = let e : k ≡ i = omega (arith, h) in rw e (ap is_done answered ∙ d)

      every : (k : ℕ) → k < i + 1 → Dec (k < i) → Told buffer' at k (answer_to (plan_of b) (decode b) number f k)
      every k l (yes h) =
          let x = w.told k h in
          record { code = o.others (at + 2 * k) (λ p q. omega (arith, h)) ∙ x.code; address = o.others (at + 2 * k + 1) (λ p q. omega (arith, h)) ∙ x.address }
      every k l (no h) = let e : k ≡ i = omega (arith, h) in rw e (subst (λ (y : Answer). Told buffer' at i y) (sym answered) t)

-- a request that was read is the one that was served
pub as_read : (t z tr o : List ℕ) (number : ℕ) (z' tr' o' : List ℕ) (a : Answer) {q q' : Request} → q ≡ q' → ServedBlind t z tr o number q z' tr' o' a → ServedBlind t z tr o number q' z' tr' o' a
as_read t z tr o number z' tr' o' a e s = subst (λ (x : Request). ServedBlind t z tr o number x z' tr' o' a) e s
