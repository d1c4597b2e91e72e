-- A request of a machine leaves every other machine's presence, sets, frames and contents as they were. Assumes nothing.
use mathlib.Core.Path.{◌≡◌, refl, sym, ◌∙◌, ap}
use mathlib.Core.Bool.{Bool, true, false}
use mathlib.Core.List.{List, [], ◌∷◌}
use Prim.Native.Nat.{ℕ, ◌+◌, ◌-◌, ◌/◌, ◌%◌, ◌<◌, ◌≤◌}
use lib.Dec.{eqb, ltb}
use lib.ListN.{length}
use native.Mathlib.Omega.{arith}
use borrow.Author.Tests.{ne_eqb, ltb-true, ltb-false}
use Rattle.base.specs.Choices.{pick, both, at, lowest}
use Rattle.base.proofs.Choices.{never, by, both_right, at_other, at_cases, run_cases, lowest_yes}
use Rattle.address.specs.declared.Region.{Region}
use Rattle.set_model.specs.Sets.{same, meets, covers, any, enter, without}
use Rattle.owners.specs.States.{State.Free, State.Owned}
use Rattle.machine.specs.declared.Which.{Which}
use Rattle.machine.specs.declared.Request.{Request}
use Rattle.machine.specs.declared.Request.TheVariants.{AddZone, RemoveZone, RemoveZoneWhole, Insert, Remove, Translate, Alloc, AllocContiguous, Dealloc, DeallocContiguous}
use Rattle.machine.specs.State.{Plan, State, Outcome, is_free, is_mine, address_of, with_present, change, with_set, taken, gone, freed}
use Rattle.machine.specs.Step.{machine_of, givens, fits, takes, first_other, gives, is_empty, present, absent, act, step}
use Rattle.machine.specs.declared.Answer.{Answer}
use Rattle.machine.specs.Lists.{Call, Call.One, Call.All, is_done, Tried, Tried.Through, Tried.Halted, before, tries, all_or_none, call}
use Rattle.machine.specs.Run.{written}
use Rattle.machine.specs.Parts.{Alike}
use Rattle.machine.proofs.Frames.{free_no_one, is_mine_lem, mine_once, run_free, before_other}

pub alike_self : (m : ℕ) (s : State) → Alike m s s
alike_self m s = record { present = refl; set = λ w. refl; mine = λ k. refl; words = λ j e. refl }

pub alike_then : (m : ℕ) (a b c : State) → Alike m a b → Alike m b c → Alike m a c
alike_then m a b c p q = record { present = p.present ∙ q.present; set = λ w. p.set w ∙ q.set w; mine = λ k. p.mine k ∙ q.mine k; words = λ j e. p.words j (q.mine (j / 512) ∙ e) ∙ q.words j e }

module _ (p : Plan) (s : State) (m m' : ℕ) (d : m' ≡ m → ⊥) where
  abbrev Ok : Outcome → Type 0
  Ok o = Alike m' o.state s

  self : Alike m' s s
  self = alike_self m' s

  presence : (b : Bool) → Alike m' (with_present s m b) s
  presence b = record { present = at_other s.present m b m' d; set = λ w. refl; mine = λ k. refl; words = λ j e. refl }

  set_other : (w : Which) (l : List Region) → Alike m' (with_set s m w l) s
  set_other w l = record { present = refl; set = λ v. ap (λ (f : Which → List Region). f v) (at_other s.set m (change w l (s.set m)) m' d); mine = λ k. refl; words = λ j e. refl }

  take_other : (k n : ℕ) → ((j : ℕ) → k ≤ j → j < k + n → s.frame j ≡ Free) → Alike m' (taken s m k n) s
  take_other k n free =
      record {
        present = refl;
        set = λ w. refl;
        mine = run_cases (λ j v. is_mine m' v ≡ is_mine m' (s.frame j)) s.frame k n (Owned m) (λ j a b. ne_eqb m m' (λ q. d (sym q)) ∙ sym (free_no_one m' (s.frame j) (free j a b))) (λ j o. refl);
        words = λ j e. refl;
      }

  give_other : (k n : ℕ) → ((j : ℕ) → k ≤ j → j < k + n → s.frame j ≡ Owned m) → Alike m' (freed s k n) s
  give_other k n mine =
      record {
        present = refl;
        set = λ w. refl;
        mine = run_cases (λ j v. is_mine m' v ≡ is_mine m' (s.frame j)) s.frame k n Free (λ j a b. sym (not_his j a b)) (λ j o. refl);
        words = λ j e. run_cases (λ i v. i ≡ j / 512 → v ≡ s.word j) (λ i. s.word j) k n 0 (λ i a b q. never (sym e ∙ ap (λ (x : ℕ). is_mine m' (s.frame x)) (sym q) ∙ not_his i a b)) (λ i o q. refl) (j / 512) refl;
      }
    where
      not_his : (j : ℕ) → k ≤ j → j < k + n → is_mine m' (s.frame j) ≡ false
      not_his j a b = mine_once m m' (s.frame j) d (is_mine_lem m (s.frame j) (mine j a b))

  gone_other : Alike m' (gone s m) s
  gone_other =
      record {
        present = at_other s.present m false m' d;
        set = λ w. ap (λ (f : Which → List Region). f w) (at_other s.set m (λ v. []) m' d);
        mine = λ k. frame k (is_mine m (s.frame k)) refl;
        words = λ j e. word j e (is_mine m (s.frame (j / 512))) refl;
      }
    where
      frame : (k : ℕ) (b : Bool) → is_mine m (s.frame k) ≡ b → is_mine m' (pick b Free (s.frame k)) ≡ is_mine m' (s.frame k)
      frame k true e = sym (mine_once m m' (s.frame k) d e)
      frame k false e = refl

      word : (j : ℕ) → is_mine m' (s.frame (j / 512)) ≡ true → (b : Bool) → is_mine m (s.frame (j / 512)) ≡ b → pick b 0 (s.word j) ≡ s.word j
      word j e true q = never (sym e ∙ mine_once m m' (s.frame (j / 512)) d q)
      word j e false q = refl

  takes_other : (n a : ℕ) → Alike m' (takes p s m n a).state s
  takes_other n a =
      let k = lowest (fits p s n a) p.frames in
      by Ok (eqb n 0) _ _ (λ e. self)
      (λ e. by Ok (ltb k p.frames) _ _ (λ f. take_other k n (run_free p s n a k (lowest_yes (fits p s n a) p.frames (ltb-true k p.frames f)))) (λ f. self))

  gives_other : (addr n : ℕ) → Alike m' (gives p s m addr n).state s
  gives_other addr n =
      let k = (addr - address_of p 0) / 4096 in
      let r = first_other s.frame m k n in
      by Ok (ltb addr (address_of p 0)) _ _ (λ e. self)
      (λ e. by Ok (eqb ((addr - address_of p 0) % 4096) 0) _ _
      (λ f. by Ok (eqb n 0) _ _ (λ x. self)
      (λ x. by Ok (ltb p.frames (k + n)) _ _ (λ y. self)
      (λ y. by Ok (ltb r (k + n)) _ _ (λ z. by Ok (is_free (s.frame r)) _ _ (λ q. self) (λ q. self))
      (λ z. give_other k n (λ j a b. before_other s.frame m k n j a (let l = ltb-false r (k + n) z in omega arith))))))
      (λ f. self))

  present_other : (q : Request) → Alike m' (present p s m q).state s
  present_other AddZone = self
  present_other RemoveZone = by Ok (is_empty p s m) _ _ (λ e. presence false) (λ e. self)
  present_other RemoveZoneWhole = gone_other
  present_other (Insert w r) =
      by Ok (any (same r) (givens p.config m w)) _ _
      (λ e. by Ok (any (meets r) (s.set m w)) _ _ (λ f. self) (λ f. by Ok (ltb (length (s.set m w)) p.slots) _ _ (λ x. set_other w (enter r (s.set m w))) (λ x. self)))
      (λ e. self)
  present_other (Remove w r) = by Ok (any (same r) (s.set m w)) _ _ (λ e. set_other w (without (same r) (s.set m w))) (λ e. self)
  present_other (Translate w addr) = by Ok (any (covers addr) (s.set m w)) _ _ (λ e. self) (λ e. self)
  present_other Alloc = takes_other 1 0
  present_other (AllocContiguous n a) = takes_other n a
  present_other (Dealloc addr) = gives_other addr 1
  present_other (DeallocContiguous addr n) = gives_other addr n

  absent_other : (q : Request) → Alike m' (absent s m q).state s
  absent_other AddZone = presence true
  absent_other RemoveZone = self
  absent_other RemoveZoneWhole = self
  absent_other (Insert w r) = self
  absent_other (Remove w r) = self
  absent_other (Translate w addr) = self
  absent_other Alloc = self
  absent_other (AllocContiguous n a) = self
  absent_other (Dealloc addr) = self
  absent_other (DeallocContiguous addr n) = self

  act_other : (q : Request) → Alike m' (act p s m q).state s
  act_other q = by Ok (s.present m) _ _ (λ h. present_other q) (λ h. absent_other q)

-- A request leaves everything of every machine but the one that asks.
pub others_unchanged : (p : Plan) (s : State) (number : ℕ) (q : Request) (m' : ℕ) → (m' ≡ machine_of p.config number → ⊥) → Alike m' (step p s number q).state s
unfolding step
others_unchanged p s number q m' d =
    let m = machine_of p.config number in
    by (λ (o : Outcome). Alike m' o.state s) (ltb m p.config.machines) _ _ (λ e. act_other p s m m' d q) (λ e. alike_self m' s)

-- So does a list, done or not.
tries_unchanged : (p : Plan) (s t : State) (number : ℕ) (qs : List Request) (m' : ℕ) → (m' ≡ machine_of p.config number → ⊥) → Alike m' t s → Alike m' (all_or_none s (tries p t number qs)).state s
tries_unchanged p s t number [] m' d h = h
tries_unchanged p s t number (q ∷ qs) m' d h =
    by (λ (x : Tried). Alike m' (all_or_none s x).state s) (is_done (step p t number q).answer) _ _ (λ e. later (step p t number q).answer (tries p (step p t number q).state number qs) (tries_unchanged p s (step p t number q).state number qs m' d (alike_then m' (step p t number q).state t s (others_unchanged p t number q m' d) h))) (λ e. alike_self m' s)
  where
    later : (a : Answer) (x : Tried) → Alike m' (all_or_none s x).state s → Alike m' (all_or_none s (before a x)).state s
    later a (Through l s') k = k
    later a (Halted i why) k = k

pub calls_unchanged : (p : Plan) (s : State) (number : ℕ) (c : Call) (m' : ℕ) → (m' ≡ machine_of p.config number → ⊥) → Alike m' (call p s number c).state s
calls_unchanged p s number (One q) m' d = others_unchanged p s number q m' d
calls_unchanged p s number (All qs) m' d = tries_unchanged p s s number qs m' d (alike_self m' s)

-- So does a machine's write.
pub writes_own : (s : State) (m j v m' : ℕ) → (m' ≡ m → ⊥) → Alike m' (written s m j v) s
writes_own s m j v m' d = record { present = refl; set = λ w. refl; mine = λ k. refl; words = λ i e. go i e (both (s.present m) (is_mine m (s.frame (j / 512)))) refl }
  where
    go : (i : ℕ) → is_mine m' (s.frame (i / 512)) ≡ true → (b : Bool) → both (s.present m) (is_mine m (s.frame (j / 512))) ≡ b → pick b (at s.word j v) s.word i ≡ s.word i
    go i e true h = at_cases (λ x y. is_mine m' (s.frame (x / 512)) ≡ true → y ≡ s.word x) s.word j v (λ f. never (sym f ∙ mine_once m m' (s.frame (j / 512)) d (both_right (s.present m) (is_mine m (s.frame (j / 512))) h))) (λ x n f. refl) i e
    go i e false h = refl
