-- Nothing but contents depends on contents: of the same state with all contents 0, a request has the same answer and makes the same but for
-- contents. Assumes nothing.
use mathlib.Core.Path.{◌≡◌, refl, ◌∙◌, ap}
use mathlib.Core.Bool.{Bool, true, false}
use Prim.Native.Nat.{ℕ, zero, suc, ◌+◌, ◌-◌, ◌/◌, ◌%◌}
use lib.Dec.{eqb, ltb}
use lib.ListN.{length}
use Rattle.base.specs.Choices.{pick, within, lowest}
use Rattle.base.proofs.Choices.{by2}
use Rattle.set_model.specs.Sets.{same, meets, covers, any}
use Rattle.machine.specs.declared.Request.{Request}
use Rattle.machine.specs.declared.Request.TheVariants.{AddZone, RemoveZone, RemoveZoneWhole, Insert, Remove, Translate, Alloc, AllocContiguous, Dealloc, DeallocContiguous}
use Rattle.machine.specs.declared.Answer.{Answer}
use Rattle.machine.specs.State.{Plan, State, Outcome, out, is_free, is_mine, address_of, gone, freed}
use Rattle.machine.specs.Step.{machine_of, givens, fits, takes, first_other, gives, is_empty, present, absent, step}
use Rattle.list_model.specs.Carrying.{state_after, answer_to, blank}

-- the outcome with all contents 0
abbrev lift : Outcome → Outcome
lift o = out o.answer (blank o.state)

abbrev Blind : Outcome → Outcome → Type 0
Blind x y = x ≡ lift y

-- 0 either way
zero_either : (b : Bool) → ◌≡◌ {A = ℕ} (pick b 0 0) 0
zero_either true = refl
zero_either false = refl

module _ (p : Plan) (s : State) (m : ℕ) where
  gone_blind : out Answer.Done (gone (blank s) m) ≡ lift (out Answer.Done (gone s m))
  gone_blind = λ i. out Answer.Done (record { present = (gone s m).present; set = (gone s m).set; frame = (gone s m).frame; word = λ j. zero_either (is_mine m (s.frame (j / 512))) i })

  freed_blind : (k n : ℕ) → out Answer.Done (freed (blank s) k n) ≡ lift (out Answer.Done (freed s k n))
  freed_blind k n = λ i. out Answer.Done (record { present = s.present; set = s.set; frame = (freed s k n).frame; word = λ j. zero_either (within k n (j / 512)) i })

  takes_blind : (n a : ℕ) → Blind (takes p (blank s) m n a) (takes p s m n a)
  takes_blind n a = by2 Blind (eqb n 0) _ _ _ _ (λ e. refl) (λ e. by2 Blind (ltb (lowest (fits p s n a) p.frames) p.frames) _ _ _ _ (λ f. refl) (λ f. refl))

  gives_blind : (addr n : ℕ) → Blind (gives p (blank s) m addr n) (gives p s m addr n)
  gives_blind addr n =
      let k = (addr - address_of p 0) / 4096 in
      let r = first_other s.frame m k n in
      by2 Blind (ltb addr (address_of p 0)) _ _ _ _ (λ e. refl)
      (λ e. by2 Blind (eqb ((addr - address_of p 0) % 4096) 0) _ _ _ _
      (λ f. by2 Blind (eqb n 0) _ _ _ _ (λ x. refl)
      (λ x. by2 Blind (ltb p.frames (k + n)) _ _ _ _ (λ y. refl)
      (λ y. by2 Blind (ltb r (k + n)) _ _ _ _ (λ z. by2 Blind (is_free (s.frame r)) _ _ _ _ (λ q. refl) (λ q. refl)) (λ z. freed_blind k n))))
      (λ f. refl))

  present_blind : (q : Request) → Blind (present p (blank s) m q) (present p s m q)
  present_blind AddZone = refl
  present_blind RemoveZone = by2 Blind (is_empty p s m) _ _ _ _ (λ e. refl) (λ e. refl)
  present_blind RemoveZoneWhole = gone_blind
  present_blind (Insert w r) =
      by2 Blind (any (same r) (givens p.config m w)) _ _ _ _
      (λ e. by2 Blind (any (meets r) (s.set m w)) _ _ _ _ (λ f. refl) (λ f. by2 Blind (ltb (length (s.set m w)) p.slots) _ _ _ _ (λ x. refl) (λ x. refl)))
      (λ e. refl)
  present_blind (Remove w r) = by2 Blind (any (same r) (s.set m w)) _ _ _ _ (λ e. refl) (λ e. refl)
  present_blind (Translate w addr) = by2 Blind (any (covers addr) (s.set m w)) _ _ _ _ (λ e. refl) (λ e. refl)
  present_blind Alloc = takes_blind 1 0
  present_blind (AllocContiguous n a) = takes_blind n a
  present_blind (Dealloc addr) = gives_blind addr 1
  present_blind (DeallocContiguous addr n) = gives_blind addr n

  absent_blind : (q : Request) → Blind (absent (blank s) m q) (absent s m q)
  absent_blind AddZone = refl
  absent_blind RemoveZone = refl
  absent_blind RemoveZoneWhole = refl
  absent_blind (Insert w r) = refl
  absent_blind (Remove w r) = refl
  absent_blind (Translate w addr) = refl
  absent_blind Alloc = refl
  absent_blind (AllocContiguous n a) = refl
  absent_blind (Dealloc addr) = refl
  absent_blind (DeallocContiguous addr n) = refl

-- one request
step_blind : (p : Plan) (s : State) (number : ℕ) (q : Request) → step p (blank s) number q ≡ lift (step p s number q)
unfolding step
step_blind p s number q =
    let m = machine_of p.config number in
    by2 Blind (ltb m p.config.machines) _ _ _ _ (λ l. by2 Blind (s.present m) _ _ _ _ (λ h. present_blind p s m q) (λ h. absent_blind p s m q)) (λ l. refl)

-- one after the other
pub after_blind : (p : Plan) (s : State) (number : ℕ) (f : ℕ → Request) (i : ℕ) → state_after p (blank s) number f i ≡ blank (state_after p s number f i)
after_blind p s number f zero = refl
after_blind p s number f (suc i) = ap (λ (t : State). (step p t number (f i)).state) (after_blind p s number f i) ∙ ap (λ (o : Outcome). o.state) (step_blind p (state_after p s number f i) number (f i))

pub answer_blind : (p : Plan) (s : State) (number : ℕ) (f : ℕ → Request) (i : ℕ) → answer_to p (blank s) number f i ≡ answer_to p s number f i
answer_blind p s number f i = ap (λ (t : State). (step p t number (f i)).answer) (after_blind p s number f i) ∙ ap (λ (o : Outcome). o.answer) (step_blind p (state_after p s number f i) number (f i))
