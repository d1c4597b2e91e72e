-- What the contents are after requests that were all done: every frame that one of them frees is cleared, also one taken again, and no other word
-- changes. Assumes nothing.
use mathlib.Core.Path.{◌≡◌, refl, sym, ◌∙◌, ap, subst}
use mathlib.Core.Bool.{Bool, true, false, not}
use Prim.Native.Nat.{ℕ, zero, suc, ◌+◌, ◌-◌, ◌/◌, ◌%◌, ◌<◌, ◌≤◌}
use lib.Dec.{eqb, ltb}
use lib.ListN.{length}
use native.Mathlib.Omega.{arith}
use borrow.Author.Tests.{ltb-true}
use Rattle.base.specs.Choices.{pick, within, lowest}
use Rattle.base.proofs.Choices.{never, by, run_cases, lowest_yes}
use Rattle.set_model.specs.Sets.{same, meets, covers, any}
use Rattle.owners.specs.States.{State.Free, State.Owned}
use Rattle.machine.specs.declared.Request.{Request}
use Rattle.machine.specs.declared.Request.TheVariants.{AddZone, RemoveZone, RemoveZoneWhole, Insert, Remove, Translate, Alloc, AllocContiguous, Dealloc, DeallocContiguous}
use Rattle.machine.specs.declared.Reason.{Reason}
use Rattle.machine.specs.declared.Reason.TheVariants.{NoMachine, Present, NotPresent, NotEmpty, NotGiven, Overlap, NoRoom, NotInSet, NotMapped, NoFrames, Below, NotAtFrame, Outside, NotTaken, NotYours}
use Rattle.machine.specs.declared.Answer.{Answer}
use Rattle.machine.specs.State.{Plan, State, Outcome, out, refuse, is_free, is_mine, address_of, taken, gone, freed}
use Rattle.machine.specs.Step.{machine_of, givens, fits, takes, first_other, gives, is_empty, present, absent, step}
use Rattle.machine.specs.Lists.{is_done}
use Rattle.machine.specs.Good.{Good}
use Rattle.machine.proofs.Frames.{run_free}
use Rattle.list_model.specs.Carrying.{state_after, answer_to, frees, cleared_by}
use Rattle.list_model.proofs.OneByOne.{after_good}

-- a frame that was machine m's in a and is not in b, or the other way round, is all 0 in b
abbrev Turned : ℕ → State → State → Type 0
Turned m a b = (j : ℕ) (v : Bool) → is_mine m (b.frame (j / 512)) ≡ v → is_mine m (a.frame (j / 512)) ≡ not v → b.word j ≡ 0

-- of what m's request made of b, where a is the state before the first: what turned is all 0, and so is what it frees, where it was done
record Ok (p : Plan) (m : ℕ) (q : Request) (a b : State) (o : Outcome) : Type 0 where
  turned : Turned m a o.state
  words : is_done o.answer ≡ true → (j : ℕ) → o.state.word j ≡ pick (frees (address_of p 0) a.frame m q (j / 512)) 0 (b.word j)

module _ (p : Plan) (m : ℕ) (a b : State) (g : Good p b) (t : Turned m a b) where
  -- a refusal changes nothing
  refused : (q : Request) (why : Reason) → Ok p m q a b (refuse why b)
  refused q why = record { turned = t; words = λ h. never (sym h) }

  -- a frame that is cleared as it becomes free, or not at all
  either : (j : ℕ) (v c : Bool) → is_mine m (pick c Free (b.frame (j / 512))) ≡ v → is_mine m (a.frame (j / 512)) ≡ not v → pick c 0 (b.word j) ≡ 0
  either j v true x y = refl
  either j v false x y = t j v x y

  take : (q : Request) (n k addr : ℕ) → ((i : ℕ) → frees (address_of p 0) a.frame m q i ≡ false) → ((j : ℕ) → k ≤ j → j < k + n → b.frame j ≡ Free) → Ok p m q a b (out (Answer.Address addr) (taken b m k n))
  take q n k addr none free =
      record {
        turned = λ j v x y. run_cases (λ i f. i ≡ j / 512 → is_mine m f ≡ v → b.word j ≡ 0) b.frame k n (Owned m) (λ i l h e z. g.cleared j (subst (λ (x : ℕ). b.frame x ≡ Free) e (free i l h))) (λ i o e z. t j v (subst (λ (x : ℕ). is_mine m (b.frame x) ≡ v) e z) y) (j / 512) refl x;
        words = λ h j. sym (ap (λ (c : Bool). pick c 0 (b.word j)) (none (j / 512)));
      }

  give : (q : Request) (n k : ℕ) → ((i : ℕ) → frees (address_of p 0) a.frame m q i ≡ within k n i) → Ok p m q a b (out Answer.Done (freed b k n))
  give q n k is = record { turned = λ j v. either j v (within k n (j / 512)); words = λ h j. sym (ap (λ (c : Bool). pick c 0 (b.word j)) (is (j / 512))) }

  leave : Ok p m RemoveZoneWhole a b (out Answer.Done (gone b m))
  leave = record { turned = λ j v. either j v (is_mine m (b.frame (j / 512))); words = λ h j. go j (is_mine m (b.frame (j / 512))) (is_mine m (a.frame (j / 512))) refl refl }
    where
      go : (j : ℕ) (x y : Bool) → is_mine m (b.frame (j / 512)) ≡ x → is_mine m (a.frame (j / 512)) ≡ y → pick x 0 (b.word j) ≡ pick y 0 (b.word j)
      go j true true e f = refl
      go j true false e f = sym (t j true e f)
      go j false true e f = t j false e f
      go j false false e f = refl

  takes_ok : (q : Request) (n c : ℕ) → ((i : ℕ) → frees (address_of p 0) a.frame m q i ≡ false) → Ok p m q a b (takes p b m n c)
  takes_ok q n c none =
      let k = lowest (fits p b n c) p.frames in
      by (Ok p m q a b) (eqb n 0) _ _ (λ e. refused q NoFrames)
      (λ e. by (Ok p m q a b) (ltb k p.frames) _ _ (λ f. take q n k (address_of p k) none (run_free p b n c k (lowest_yes (fits p b n c) p.frames (ltb-true k p.frames f)))) (λ f. refused q NoRoom))

  gives_ok : (q : Request) (addr n : ℕ) → ((i : ℕ) → frees (address_of p 0) a.frame m q i ≡ within ((addr - address_of p 0) / 4096) n i) → Ok p m q a b (gives p b m addr n)
  gives_ok q addr n is =
      let k = (addr - address_of p 0) / 4096 in
      let r = first_other b.frame m k n in
      by (Ok p m q a b) (ltb addr (address_of p 0)) _ _ (λ e. refused q Below)
      (λ e. by (Ok p m q a b) (eqb ((addr - address_of p 0) % 4096) 0) _ _
      (λ f. by (Ok p m q a b) (eqb n 0) _ _ (λ x. refused q NoFrames)
      (λ x. by (Ok p m q a b) (ltb p.frames (k + n)) _ _ (λ y. refused q Outside)
      (λ y. by (Ok p m q a b) (ltb r (k + n)) _ _ (λ z. by (Ok p m q a b) (is_free (b.frame r)) _ _ (λ u. refused q NotTaken) (λ u. refused q NotYours)) (λ z. give q n k is))))
      (λ f. refused q NotAtFrame))

  present_ok : (q : Request) → Ok p m q a b (present p b m q)
  present_ok AddZone = refused AddZone Present
  present_ok RemoveZone = by (Ok p m RemoveZone a b) (is_empty p b m) _ _ (λ e. record { turned = t; words = λ h j. refl }) (λ e. refused RemoveZone NotEmpty)
  present_ok RemoveZoneWhole = leave
  present_ok (Insert w r) =
      by (Ok p m (Insert w r) a b) (any (same r) (givens p.config m w)) _ _
      (λ e. by (Ok p m (Insert w r) a b) (any (meets r) (b.set m w)) _ _ (λ f. refused (Insert w r) Overlap)
      (λ f. by (Ok p m (Insert w r) a b) (ltb (length (b.set m w)) p.slots) _ _ (λ x. record { turned = t; words = λ h j. refl }) (λ x. refused (Insert w r) NoRoom)))
      (λ e. refused (Insert w r) NotGiven)
  present_ok (Remove w r) = by (Ok p m (Remove w r) a b) (any (same r) (b.set m w)) _ _ (λ e. record { turned = t; words = λ h j. refl }) (λ e. refused (Remove w r) NotInSet)
  present_ok (Translate w addr) = by (Ok p m (Translate w addr) a b) (any (covers addr) (b.set m w)) _ _ (λ e. record { turned = t; words = λ h j. refl }) (λ e. refused (Translate w addr) NotMapped)
  present_ok Alloc = takes_ok Alloc 1 0 (λ i. refl)
  present_ok (AllocContiguous n c) = takes_ok (AllocContiguous n c) n c (λ i. refl)
  present_ok (Dealloc addr) = gives_ok (Dealloc addr) addr 1 (λ i. refl)
  present_ok (DeallocContiguous addr n) = gives_ok (DeallocContiguous addr n) addr n (λ i. refl)

  absent_ok : (q : Request) → Ok p m q a b (absent b m q)
  absent_ok AddZone = record { turned = t; words = λ h j. refl }
  absent_ok RemoveZone = refused RemoveZone NotPresent
  absent_ok RemoveZoneWhole = refused RemoveZoneWhole NotPresent
  absent_ok (Insert w r) = refused (Insert w r) NotPresent
  absent_ok (Remove w r) = refused (Remove w r) NotPresent
  absent_ok (Translate w addr) = refused (Translate w addr) NotPresent
  absent_ok Alloc = refused Alloc NotPresent
  absent_ok (AllocContiguous n c) = refused (AllocContiguous n c) NotPresent
  absent_ok (Dealloc addr) = refused (Dealloc addr) NotPresent
  absent_ok (DeallocContiguous addr n) = refused (DeallocContiguous addr n) NotPresent

step_ok : (p : Plan) (number : ℕ) (a b : State) → Good p b → Turned (machine_of p.config number) a b → (q : Request) → Ok p (machine_of p.config number) q a b (step p b number q)
unfolding step
step_ok p number a b g t q =
    let m = machine_of p.config number in
    by (Ok p m q a b) (ltb m p.config.machines) _ _ (λ l. by (Ok p m q a b) (b.present m) _ _ (λ h. present_ok p m a b g t q) (λ h. absent_ok p m a b g t q)) (λ l. refused p m a b g t q NoMachine)

module _ (p : Plan) (s : State) (number : ℕ) (f : ℕ → Request) (g : Good p s) where
  -- what turned on the way is all 0
  turned_after : (i : ℕ) → Turned (machine_of p.config number) s (state_after p s number f i)
  turned_after zero = λ j v x y. turn j v (sym x ∙ y)
    where
      turn : (j : ℕ) (v : Bool) → v ≡ not v → s.word j ≡ 0
      turn j true e = never e
      turn j false e = never (sym e)
  turned_after (suc i) = (step_ok p number s (state_after p s number f i) (after_good p s number f g i) (turned_after i) (f i)).turned

  -- The contents after requests that were all done.
  pub words_after : (i : ℕ) → ((k : ℕ) → k < i → is_done (answer_to p s number f k) ≡ true) → (j : ℕ) → (state_after p s number f i).word j ≡ cleared_by (address_of p 0) s.frame (machine_of p.config number) f i j (s.word j)
  words_after zero d j = refl
  words_after (suc i) d j =
      (step_ok p number s (state_after p s number f i) (after_good p s number f g i) (turned_after i) (f i)).words (d i (omega arith)) j
      ∙ ap (pick (frees (address_of p 0) s.frame (machine_of p.config number) (f i) (j / 512)) 0) (words_after i (λ k l. d k (omega arith)) j)
