-- Nothing is ever lost, and no machine is ever stuck. Assumes nothing.
use mathlib.Core.Path.{◌≡◌, refl, sym, ◌∙◌, ap}
use mathlib.Core.Bool.{Bool, true, false}
use mathlib.Core.List.{List, [], ◌∷◌}
use mathlib.Core.Logic.{◌⊎◌, inl, inr}
use Prim.Native.Nat.{ℕ, zero, suc, ◌+◌, ◌-◌, ◌/◌, ◌<◌, ◌≤◌}
use lib.Dec.{eqb, ltb}
use native.Mathlib.Decide.{dec_lt, ℕ_discrete}
use native.Mathlib.Omega.{arith}
use borrow.Author.Tests.{eq-eqb, ne_eqb, lt-ltb, le-ltb}
use Rattle.base.specs.Choices.{pick, at}
use Rattle.base.proofs.Choices.{never, at_here, at_other, lowest_is}
use Rattle.address.specs.declared.Region.{Region}
use Rattle.config_model.specs.Config.{Config, ConfigOk}
use Rattle.set_model.specs.Sets.{In}
use Rattle.owners.specs.States as frames
use Rattle.owners.specs.States.{State.Free, State.Reserved, State.Owned}
use Rattle.machine.specs.declared.Which.{Which}
use Rattle.machine.specs.declared.Request.TheVariants.{RemoveZoneWhole, Remove, DeallocContiguous}
use Rattle.machine.specs.declared.Answer.{Answer}
use Rattle.machine.specs.State.{Plan, State, Outcome, address_of}
use Rattle.machine.specs.Step.{machine_of, present, step}
use Rattle.machine.specs.Lists.{Call.One}
use Rattle.machine.specs.Run.{Event, Event.Asks, run, start}
use Rattle.machine.specs.Good.{Good}
use Rattle.machine.proofs.Keeps.{owned_usable, step_good}
use Rattle.machine.proofs.Cases.{of_present, of_absent, leaves_set, gives_at, back_done}

-- the number of a machine is that machine's alone
pub machine_back : (c : Config) → ConfigOk c → (m : ℕ) → m < c.machines → machine_of c (c.number m) ≡ m
machine_back c ok m l = lowest_is (λ k. eqb (c.number k) (c.number m)) c.machines m l (eq-eqb (c.number m) (c.number m) refl) (λ k h. ne_eqb (c.number k) (c.number m) (λ e. let q = ok.numbers k m (omega arith) l e in omega arith))

-- ---- given back

-- every machine below n is removed whole, from the last to the first
abbrev pub wholes : Plan → ℕ → List Event
wholes p zero = []
wholes p (suc n) = Asks (p.config.number n) (One RemoveZoneWhole) ∷ wholes p n

-- no machine is there, no set has a region, and the frames are those of the start, free ones all 0
pub record GivenBack (p : Plan) (s : State) : Type 0 where
  pub present : (m : ℕ) → s.present m ≡ false
  pub set : (m : ℕ) (w : Which) → s.set m w ≡ []
  pub frame : (k : ℕ) → s.frame k ≡ (start p).frame k
  pub clear : (j : ℕ) → s.frame (j / 512) ≡ Free → s.word j ≡ 0

-- where no machine is there
nobody_there_lem : (p : Plan) (s : State) → Good p s → ((m : ℕ) → s.present m ≡ false) → GivenBack p s
nobody_there_lem p s g away = record { present = away; set = λ m w. (g.sets m w).empty (away m); frame = λ k. frame k (s.frame k) refl (dec_lt k p.usable); clear = g.cleared }
  where
    frame : (k : ℕ) (f : frames.State) → s.frame k ≡ f → Dec (k < p.usable) → s.frame k ≡ pick (ltb k p.usable) Free Reserved
    frame k f e (no l) = g.frames.reserved k (omega (arith, l)) ∙ sym (ap (λ (b : Bool). pick b Free Reserved) (le-ltb k p.usable (omega (arith, l))))
    frame k Free e (yes l) = e ∙ sym (ap (λ (b : Bool). pick b Free Reserved) (lt-ltb k p.usable l))
    frame k Reserved e (yes l) = absurd (g.frames.others k l e)
    frame k (Owned c) e (yes l) = never (sym (g.frames.owner c k e) ∙ away c)

-- removing a machine whole leaves it absent, and no other present that was not
whole_absent : (p : Plan) (s : State) → Good p s → (n : ℕ) → n < p.config.machines → (m : ℕ) → (m ≡ n → ⊥) ⊎ (m ≡ n) → ((m ≡ n → ⊥) → s.present m ≡ false) → (step p s (p.config.number n) RemoveZoneWhole).state.present m ≡ false
whole_absent p s g n l m c away = go (s.present n) refl c
  where
    e : machine_of p.config (p.config.number n) ≡ n
    e = machine_back p.config g.plan.config n l

    there : s.present n ≡ true → (step p s (p.config.number n) RemoveZoneWhole).state.present m ≡ at s.present n false m
    there h = ap (λ (o : Outcome). o.state.present m) (of_present p s (p.config.number n) RemoveZoneWhole (rw e l) (rw e h)) ∙ ap (λ (x : ℕ). at s.present x false m) e

    gone_already : s.present n ≡ false → (step p s (p.config.number n) RemoveZoneWhole).state.present m ≡ s.present m
    gone_already h = ap (λ (o : Outcome). o.state.present m) (of_absent p s (p.config.number n) RemoveZoneWhole (rw e l) (rw e h))

    go : (b : Bool) → s.present n ≡ b → (m ≡ n → ⊥) ⊎ (m ≡ n) → (step p s (p.config.number n) RemoveZoneWhole).state.present m ≡ false
    go true h (inl d) = there h ∙ at_other s.present n false m d ∙ away d
    go true h (inr q) = there h ∙ ap (at s.present n false) q ∙ at_here s.present n false
    go false h (inl d) = gone_already h ∙ away d
    go false h (inr q) = gone_already h ∙ ap s.present q ∙ h

given_back_from : (p : Plan) (n : ℕ) → n ≤ p.config.machines → (s : State) → Good p s → ((m : ℕ) → n ≤ m → s.present m ≡ false) → GivenBack p (run p s (wholes p n))
given_back_from p zero l s g away = nobody_there_lem p s g (λ m. away m (omega arith))
given_back_from p (suc n) l s g away =
    given_back_from p n (omega arith) (step p s (p.config.number n) RemoveZoneWhole).state (step_good p s (p.config.number n) RemoveZoneWhole g)
    (λ m h. whole_absent p s g n l m (split m (ℕ_discrete m n)) (λ d. away m (omega (arith, d))))
  where
    split : (m : ℕ) → Dec (m ≡ n) → (m ≡ n → ⊥) ⊎ (m ≡ n)
    split m (yes q) = inr q
    split m (no d) = inl d

-- From any state that is `Good`, removing every machine whole gives the start's presence, sets and frames, every free frame all 0.
pub given_back : (p : Plan) (s : State) → Good p s → GivenBack p (run p s (wholes p p.config.machines))
given_back p s g = given_back_from p p.config.machines (omega arith) s g (λ m h. absent m h (s.present m) refl)
  where
    absent : (m : ℕ) → p.config.machines ≤ m → (b : Bool) → s.present m ≡ b → s.present m ≡ false
    absent m h true e = absurd (let l = g.known m e in omega arith)
    absent m h false e = e

-- ---- never stuck

module _ (p : Plan) (s : State) (g : Good p s) (number : ℕ) (configured : machine_of p.config number < p.config.machines) (here : s.present (machine_of p.config number) ≡ true) where
  -- A machine's giving back of frames that it owns is never refused; one frame is a run of one.
  pub gives_own : (k n : ℕ) → 0 < n → ((j : ℕ) → k ≤ j → j < k + n → s.frame j ≡ Owned (machine_of p.config number)) → (step p s number (DeallocContiguous (address_of p k) n)).answer ≡ Answer.Done
  gives_own k n l mine =
      let u = owned_usable p s g (machine_of p.config number) (k + n - 1) (mine (k + n - 1) (omega arith) (omega arith)) in
      let x = g.plan.pages in
      let y = g.plan.frames in
      ap (λ (o : Outcome). o.answer)
      (of_present p s number (DeallocContiguous (address_of p k) n) configured here
      ∙ gives_at p s (machine_of p.config number) (address_of p k) n k refl
      ∙ back_done p s (machine_of p.config number) k n l (omega arith) mine)

  -- Nor is the removal of a region that is in the set,
  pub leaves_own : (w : Which) (r : Region) → In r (s.set (machine_of p.config number) w) → (step p s number (Remove w r)).answer ≡ Answer.Done
  leaves_own w r i = ap (λ (o : Outcome). o.answer) (of_present p s number (Remove w r) configured here ∙ leaves_set p s (machine_of p.config number) w r i)

  -- nor that of the whole machine.
  pub goes_whole : (step p s number RemoveZoneWhole).answer ≡ Answer.Done
  goes_whole = ap (λ (o : Outcome). o.answer) (of_present p s number RemoveZoneWhole configured here)
