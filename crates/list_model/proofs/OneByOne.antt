-- A list of the requests f 0 to f (n - 1) is what they are one by one. Assumes nothing.
use mathlib.Core.Path.{◌≡◌, refl, ◌∙◌, ap}
use mathlib.Core.Bool.{Bool, true, false}
use mathlib.Core.List.{◌∷◌}
use Prim.Native.Nat.{ℕ, zero, suc, ◌<◌, suc-le-suc, zero-le}
use native.Mathlib.Nat.{not-suc-le-zero, le_of_suc-le-suc}
use Rattle.base.specs.Choices.{pick}
use Rattle.set_model.specs.Sets.{table}
use Rattle.machine.specs.declared.Request.{Request}
use Rattle.machine.specs.State.{Plan, State}
use Rattle.machine.specs.Step.{step}
use Rattle.machine.specs.Lists.{is_done, Tried.Through, Tried.Halted, before, tries}
use Rattle.machine.specs.Good.{Good}
use Rattle.machine.proofs.Keeps.{step_good}
use Rattle.list_model.specs.Carrying.{state_after, answer_to}

-- every state on the way is good
pub after_good : (p : Plan) (s : State) (number : ℕ) (f : ℕ → Request) → Good p s → (i : ℕ) → Good p (state_after p s number f i)
after_good p s number f g zero = g
after_good p s number f g (suc i) = step_good p (state_after p s number f i) number (f i) (after_good p s number f g i)

-- the requests behind the first, from the state after it
shifted : (p : Plan) (s : State) (number : ℕ) (f : ℕ → Request) (i : ℕ) → state_after p (step p s number (f zero)).state number (λ k. f (suc k)) i ≡ state_after p s number f (suc i)
shifted p s number f zero = refl
shifted p s number f (suc i) = ap (λ (t : State). (step p t number (f (suc i))).state) (shifted p s number f i)

answer_shifted : (p : Plan) (s : State) (number : ℕ) (f : ℕ → Request) (i : ℕ) → answer_to p (step p s number (f zero)).state number (λ k. f (suc k)) i ≡ answer_to p s number f (suc i)
answer_shifted p s number f i = ap (λ (t : State). (step p t number (f (suc i))).answer) (shifted p s number f i)

table_same : {A : Type 0} (f g : ℕ → A) → ((i : ℕ) → f i ≡ g i) → (n : ℕ) → table f n ≡ table g n
table_same f g e n = ap (λ h. table h n) (λ i k. e k i)

-- where all are done the list goes through
pub tries_through : (p : Plan) (s : State) (number : ℕ) (f : ℕ → Request) (n : ℕ) → ((k : ℕ) → k < n → is_done (answer_to p s number f k) ≡ true) → tries p s number (table f n) ≡ Through (table (answer_to p s number f) n) (state_after p s number f n)
tries_through p s number f zero d = refl
tries_through p s number f (suc n) d =
    ap (λ (b : Bool). pick b (before (step p s number (f zero)).answer (tries p (step p s number (f zero)).state number (table (λ k. f (suc k)) n))) (Halted 0 (step p s number (f zero)).answer)) (d zero (suc-le-suc zero-le))
    ∙ ap (before (step p s number (f zero)).answer) (tries_through p (step p s number (f zero)).state number (λ k. f (suc k)) n (λ k l. ap is_done (answer_shifted p s number f k) ∙ d (suc k) (suc-le-suc l)))
    ∙ (λ i. Through ((step p s number (f zero)).answer ∷ table_same (answer_to p (step p s number (f zero)).state number (λ k. f (suc k))) (λ k. answer_to p s number f (suc k)) (answer_shifted p s number f) n i) (shifted p s number f n i))

-- and where one is the first that is not, the list stops there
pub tries_halted : (p : Plan) (s : State) (number : ℕ) (f : ℕ → Request) (n i : ℕ) → i < n → ((k : ℕ) → k < i → is_done (answer_to p s number f k) ≡ true) → is_done (answer_to p s number f i) ≡ false → tries p s number (table f n) ≡ Halted i (answer_to p s number f i)
tries_halted p s number f zero i l d e = absurd (not-suc-le-zero l)
tries_halted p s number f (suc n) zero l d e = ap (λ (b : Bool). pick b (before (step p s number (f zero)).answer (tries p (step p s number (f zero)).state number (table (λ k. f (suc k)) n))) (Halted 0 (step p s number (f zero)).answer)) e
tries_halted p s number f (suc n) (suc i) l d e =
    ap (λ (b : Bool). pick b (before (step p s number (f zero)).answer (tries p (step p s number (f zero)).state number (table (λ k. f (suc k)) n))) (Halted 0 (step p s number (f zero)).answer)) (d zero (suc-le-suc zero-le))
    ∙ ap (before (step p s number (f zero)).answer) (tries_halted p (step p s number (f zero)).state number (λ k. f (suc k)) n i (le_of_suc-le-suc l) (λ k h. ap is_done (answer_shifted p s number f k) ∙ d (suc k) (suc-le-suc h)) (ap is_done (answer_shifted p s number f i) ∙ e))
    ∙ (λ j. Halted (suc i) (answer_shifted p s number f i j))
