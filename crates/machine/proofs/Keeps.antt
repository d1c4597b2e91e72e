-- `Good` stays: every request and every write of a machine keeps it. Assumes nothing.
use mathlib.Core.Path.{◌≡◌, refl, sym, ◌∙◌, ap, subst}
use mathlib.Core.Bool.{Bool, true, false, not}
use mathlib.Core.List.{List, [], ◌∷◌}
use Prim.Native.Nat.{ℕ, ◌+◌, ◌-◌, ◌/◌, ◌%◌, ◌<◌, ◌≤◌}
use lib.Dec.{eqb, ltb}
use lib.ListN.{length}
use native.Mathlib.Omega.{arith}
use native.Mathlib.Decide.{ℕ_discrete, dec_lt}
use borrow.Author.Tests.{ltb-true, ltb-false}
use Rattle.base.specs.Choices.{pick, both, at, within, lowest, all_from}
use Rattle.base.proofs.Choices.{never, by, both_left, both_right, at_cases, run_cases, at_here, at_other, lowest_yes, all_at}
use Rattle.address.specs.declared.Region.{Region}
use Rattle.address.specs.Regions.{Valid}
use Rattle.set_model.specs.Sets.{same, meets, covers, any, none, In, Every, enter, without, Ordered}
use Rattle.set_model.proofs.Lists.{table_in, enter_every, without_every, enter_ordered, without_ordered}
use Rattle.owners.specs.States.{State.Free, State.Reserved, State.Owned}
use Rattle.machine.specs.declared.Which.{Which}
use Rattle.machine.specs.declared.Which.TheVariants.{Processors, Devices}
use Rattle.machine.specs.declared.Request.{Request}
use Rattle.machine.specs.declared.Request.TheVariants.{AddZone, RemoveZone, RemoveZoneWhole, Insert, Remove, Translate, Alloc, AllocContiguous, Dealloc, DeallocContiguous}
use Rattle.machine.specs.State.{Plan, State, Outcome, is_free, is_mine, with_present, change, with_set, taken, gone, freed, address_of}
use Rattle.machine.specs.Step.{machine_of, givens, fits, takes, first_other, gives, is_empty, present, absent, act, step}
use Rattle.machine.specs.declared.Answer.{Answer}
use Rattle.machine.specs.Lists.{Call, Call.One, Call.All, is_done, Tried, Tried.Through, Tried.Halted, before, tries, all_or_none, call}
use Rattle.machine.specs.Run.{Event, Event.Asks, Event.Writes, written, after, run, start}
use Rattle.machine.specs.Good.{PlanOk, given, SetGood, Good}
use Rattle.machine.proofs.Frames.{mine_is, is_mine_lem, free_not_owned, owned_once, run_free, before_other}
use Rattle.owners.proofs.States.{not_reserved, client_not_reserved}

-- a region that a machine is given is valid
pub given_valid : (p : Plan) → PlanOk p → (m : ℕ) (w : Which) (r : Region) → m < p.config.machines → In r (givens p.config m w) → Valid r.guest r.host r.pages
given_valid p ok m w r l i =
    let x = table_in r (p.config.region m) (p.config.count m) i in
    subst (λ (y : Region). Valid y.guest y.host y.pages) (sym x.2) (ok.config.valid m x.0 (record { machine = l; region = x.1 }))

-- a frame that a machine owns is usable
pub owned_usable : (p : Plan) (s : State) → Good p s → (m k : ℕ) → s.frame k ≡ Owned m → k < p.usable
owned_usable p s g m k e = go (dec_lt k p.usable)
  where
    go : Dec (k < p.usable) → k < p.usable
    go (yes l) = l
    go (no l) = absurd (client_not_reserved m (sym e ∙ g.frames.reserved k (omega (arith, l))))

none_is : (l : List Region) → none l ≡ true → l ≡ []
none_is [] e = refl
none_is (x ∷ xs) e = never (sym e)

-- what `is_empty` says
module _ (p : Plan) (s : State) (m : ℕ) (e : is_empty p s m ≡ true) where
  devices : Bool
  devices = both (none (s.set m Devices)) (all_from (λ k. not (is_mine m (s.frame k))) 0 p.frames)

  later : devices ≡ true
  unfolding devices
  later = both_right (none (s.set m Processors)) devices e

  pub empty_sets : (w : Which) → s.set m w ≡ []
  unfolding devices
  empty_sets Processors = none_is (s.set m Processors) (both_left (none (s.set m Processors)) devices e)
  empty_sets Devices = none_is (s.set m Devices) (both_left (none (s.set m Devices)) (all_from (λ k. not (is_mine m (s.frame k))) 0 p.frames) later)

  pub empty_frames : (k : ℕ) → k < p.frames → s.frame k ≡ Owned m → ⊥
  unfolding devices
  empty_frames k l o = never (sym (all_at (λ k. not (is_mine m (s.frame k))) 0 p.frames (both_right (none (s.set m Devices)) (all_from (λ k. not (is_mine m (s.frame k))) 0 p.frames) later) k (omega arith) (omega arith)) ∙ ap not (is_mine_lem m (s.frame k) o))

module _ (p : Plan) (s : State) (m : ℕ) (g : Good p s) where
  -- a machine comes
  come : m < p.config.machines → Good p (with_present s m true)
  come l =
      record {
        plan = g.plan;
        known = at_cases (λ j b. b ≡ true → j < p.config.machines) s.present m true (λ e. l) (λ j d. g.known j);
        sets = at_cases (λ j b. (w : Which) → SetGood p b j w (s.set j w)) s.present m true (λ w. record { ordered = (g.sets m w).ordered; whole = (g.sets m w).whole; empty = λ e. never e }) (λ j d. g.sets j);
        frames = record {
          reserved = g.frames.reserved;
          others = g.frames.others;
          owner = λ c k e. at_cases (λ j b. s.present j ≡ true → b ≡ true) s.present m true (λ x. refl) (λ j d x. x) c (g.frames.owner c k e);
        };
        cleared = g.cleared;
      }

  -- an empty machine goes
  go_away : is_empty p s m ≡ true → Good p (with_present s m false)
  go_away e =
      record {
        plan = g.plan;
        known = at_cases (λ j b. b ≡ true → j < p.config.machines) s.present m false (λ x. never (sym x)) (λ j d. g.known j);
        sets = at_cases (λ j b. (w : Which) → SetGood p b j w (s.set j w)) s.present m false (λ w. record { ordered = (g.sets m w).ordered; whole = (g.sets m w).whole; empty = λ x. empty_sets p s m e w }) (λ j d. g.sets j);
        frames = record {
          reserved = g.frames.reserved;
          others = g.frames.others;
          owner = λ c k x. at_cases (λ j b. s.frame k ≡ Owned j → b ≡ true) s.present m false (λ y. absurd (empty_frames p s m e k (let u = owned_usable p s g m k y in let a = g.plan.pages in let b = g.plan.frames in omega arith) y)) (λ j d y. g.frames.owner j k y) c x;
        };
        cleared = g.cleared;
      }

  changed : (w : Which) (l : List Region) (f : Which → List Region) (P : Which → List Region → Type 0) → P w l → ((v : Which) → P v (f v)) → (v : Which) → P v (change w l f v)
  changed Processors l f P h o Processors = h
  changed Processors l f P h o Devices = o Devices
  changed Devices l f P h o Processors = o Processors
  changed Devices l f P h o Devices = h

  -- a set of a machine that is there becomes another in order, of given regions
  reset : s.present m ≡ true → (w : Which) (l : List Region) → Ordered l → Every (given p.config m w) l → Good p (with_set s m w l)
  reset h w l o e =
      record {
        plan = g.plan;
        known = g.known;
        sets = at_cases (λ j f. (v : Which) → SetGood p (s.present j) j v (f v)) s.set m (change w l (s.set m)) (changed w l (s.set m) (SetGood p (s.present m) m) (record { ordered = o; whole = e; empty = λ x. never (sym h ∙ x) }) (g.sets m)) (λ j d. g.sets j);
        frames = g.frames;
        cleared = g.cleared;
      }

  -- free frames become those of a machine that is there
  take : s.present m ≡ true → (k n : ℕ) → ((j : ℕ) → k ≤ j → j < k + n → s.frame j ≡ Free) → Good p (taken s m k n)
  take h k n free =
      record {
        plan = g.plan;
        known = g.known;
        sets = g.sets;
        frames = record {
          reserved = run_cases (λ j v. p.usable ≤ j → v ≡ Reserved) s.frame k n (Owned m) (λ j a b u. absurd (not_reserved (sym (free j a b) ∙ g.frames.reserved j u))) (λ j d. g.frames.reserved j);
          others = run_cases (λ j v. j < p.usable → v ≡ Reserved → ⊥) s.frame k n (Owned m) (λ j a b u e. client_not_reserved m e) (λ j d. g.frames.others j);
          owner = λ c. run_cases (λ j v. v ≡ Owned c → s.present c ≡ true) s.frame k n (Owned m) (λ j a b e. subst (λ (x : ℕ). s.present x ≡ true) (owned_once m c e) h) (λ j d. g.frames.owner c j);
        };
        cleared = λ j. run_cases (λ i v. (j / 512 ≡ i) → v ≡ Free → s.word j ≡ 0) s.frame k n (Owned m) (λ i a b q e. absurd (free_not_owned m (sym e))) (λ i d q e. g.cleared j (rw q e)) (j / 512) refl;
      }

  -- a machine's frames become free, and are cleared
  give : (k n : ℕ) → ((j : ℕ) → k ≤ j → j < k + n → s.frame j ≡ Owned m) → Good p (freed s k n)
  give k n mine =
      record {
        plan = g.plan;
        known = g.known;
        sets = g.sets;
        frames = record {
          reserved = run_cases (λ j v. p.usable ≤ j → v ≡ Reserved) s.frame k n Free (λ j a b u. absurd (client_not_reserved m (sym (mine j a b) ∙ g.frames.reserved j u))) (λ j d. g.frames.reserved j);
          others = run_cases (λ j v. j < p.usable → v ≡ Reserved → ⊥) s.frame k n Free (λ j a b u e. not_reserved e) (λ j d. g.frames.others j);
          owner = λ c. run_cases (λ j v. v ≡ Owned c → s.present c ≡ true) s.frame k n Free (λ j a b e. absurd (free_not_owned c e)) (λ j d. g.frames.owner c j);
        };
        cleared = λ j. clear j (within k n (j / 512));
      }
    where
      clear : (j : ℕ) (b : Bool) → pick b Free (s.frame (j / 512)) ≡ Free → pick b 0 (s.word j) ≡ 0
      clear j true e = refl
      clear j false e = g.cleared j e

  -- a machine goes with all that it has
  go_whole : Good p (gone s m)
  go_whole =
      record {
        plan = g.plan;
        known = at_cases (λ j b. b ≡ true → j < p.config.machines) s.present m false (λ x. never (sym x)) (λ j d. g.known j);
        sets = λ j w. sets j w (ℕ_discrete j m);
        frames = record {
          reserved = λ k u. by (λ f. f ≡ Reserved) (is_mine m (s.frame k)) Free (s.frame k) (λ e. absurd (client_not_reserved m (sym (mine_is m (s.frame k) e) ∙ g.frames.reserved k u))) (λ e. g.frames.reserved k u);
          others = λ k u. by (λ f. f ≡ Reserved → ⊥) (is_mine m (s.frame k)) Free (s.frame k) (λ e. not_reserved) (λ e. g.frames.others k u);
          owner = λ c k. owner c k (is_mine m (s.frame k)) refl (ℕ_discrete c m);
        };
        cleared = λ j. cleared j (is_mine m (s.frame (j / 512)));
      }
    where
      sets : (j : ℕ) (w : Which) → Dec (j ≡ m) → SetGood p (at s.present m false j) j w (at s.set m (λ v. []) j w)
      sets j w (yes e) = rw (e, at_here s.set m (λ v. [])) (record { ordered = tt; whole = tt; empty = λ x. refl })
      sets j w (no d) = rw (at_other s.set m (λ v. []) j d, at_other s.present m false j d) (g.sets j w)

      owner : (c k : ℕ) (b : Bool) → is_mine m (s.frame k) ≡ b → Dec (c ≡ m) → pick b Free (s.frame k) ≡ Owned c → at s.present m false c ≡ true
      owner c k true e d q = absurd (free_not_owned c q)
      owner c k false e (yes x) q = never (sym (is_mine_lem m (s.frame k) (q ∙ ap Owned x)) ∙ e)
      owner c k false e (no x) q = at_other s.present m false c x ∙ g.frames.owner c k q

      cleared : (j : ℕ) (b : Bool) → pick b Free (s.frame (j / 512)) ≡ Free → pick b 0 (s.word j) ≡ 0
      cleared j true e = refl
      cleared j false e = g.cleared j e

  abbrev Ok : Outcome → Type 0
  Ok o = Good p o.state

  takes_good : s.present m ≡ true → (n a : ℕ) → Good p (takes p s m n a).state
  takes_good h n a =
      let k = lowest (fits p s n a) p.frames in
      by Ok (eqb n 0) _ _ (λ e. g)
      (λ e. by Ok (ltb k p.frames) _ _ (λ f. take h k n (run_free p s n a k (lowest_yes (fits p s n a) p.frames (ltb-true k p.frames f)))) (λ f. g))

  gives_good : (addr n : ℕ) → Good p (gives p s m addr n).state
  gives_good addr n =
      let k = (addr - address_of p 0) / 4096 in
      let r = first_other s.frame m k n in
      by Ok (ltb addr (address_of p 0)) _ _ (λ e. g)
      (λ e. by Ok (eqb ((addr - address_of p 0) % 4096) 0) _ _
      (λ f. by Ok (eqb n 0) _ _ (λ x. g)
      (λ x. by Ok (ltb p.frames (k + n)) _ _ (λ y. g)
      (λ y. by Ok (ltb r (k + n)) _ _ (λ z. by Ok (is_free (s.frame r)) _ _ (λ q. g) (λ q. g))
      (λ z. give k n (λ j a b. before_other s.frame m k n j a (let l = ltb-false r (k + n) z in omega arith))))))
      (λ f. g))

  present_good : s.present m ≡ true → m < p.config.machines → (q : Request) → Good p (present p s m q).state
  present_good h l AddZone = g
  present_good h l RemoveZone = by Ok (is_empty p s m) _ _ go_away (λ e. g)
  present_good h l RemoveZoneWhole = go_whole
  present_good h l (Insert w r) =
      by Ok (any (same r) (givens p.config m w)) _ _
      (λ e. by Ok (any (meets r) (s.set m w)) _ _ (λ f. g)
      (λ f. by Ok (ltb (length (s.set m w)) p.slots) _ _
      (λ x. reset h w (enter r (s.set m w)) (enter_ordered r (s.set m w) (given_valid p g.plan m w r l e) (g.sets m w).ordered f) (enter_every (given p.config m w) r (s.set m w) e (g.sets m w).whole))
      (λ x. g)))
      (λ e. g)
  present_good h l (Remove w r) =
      by Ok (any (same r) (s.set m w)) _ _
      (λ e. reset h w (without (same r) (s.set m w)) (without_ordered (same r) (s.set m w) (g.sets m w).ordered) (without_every (given p.config m w) (same r) (s.set m w) (g.sets m w).whole))
      (λ e. g)
  present_good h l (Translate w addr) = by Ok (any (covers addr) (s.set m w)) _ _ (λ e. g) (λ e. g)
  present_good h l Alloc = takes_good h 1 0
  present_good h l (AllocContiguous n a) = takes_good h n a
  present_good h l (Dealloc addr) = gives_good addr 1
  present_good h l (DeallocContiguous addr n) = gives_good addr n

  absent_good : m < p.config.machines → (q : Request) → Good p (absent s m q).state
  absent_good l AddZone = come l
  absent_good l RemoveZone = g
  absent_good l RemoveZoneWhole = g
  absent_good l (Insert w r) = g
  absent_good l (Remove w r) = g
  absent_good l (Translate w addr) = g
  absent_good l Alloc = g
  absent_good l (AllocContiguous n a) = g
  absent_good l (Dealloc addr) = g
  absent_good l (DeallocContiguous addr n) = g

  pub act_good : m < p.config.machines → (q : Request) → Good p (act p s m q).state
  act_good l q = by Ok (s.present m) _ _ (λ h. present_good h l q) (λ h. absent_good l q)

-- Every request keeps `Good`.
pub step_good : (p : Plan) (s : State) (number : ℕ) (q : Request) → Good p s → Good p (step p s number q).state
unfolding step
step_good p s number q g =
    let m = machine_of p.config number in
    by (λ (o : Outcome). Good p o.state) (ltb m p.config.machines) _ _ (λ e. act_good p s m g (ltb-true m p.config.machines e) q) (λ e. g)

-- owner-writes: so does a write of a machine, which reaches the frames that it owns alone
pub owner_writes : (p : Plan) (s : State) (m j v : ℕ) → Good p s → Good p (written s m j v)
owner_writes p s m j v g =
    record {
      plan = g.plan;
      known = g.known;
      sets = g.sets;
      frames = g.frames;
      cleared = λ i e. go i e (both (s.present m) (is_mine m (s.frame (j / 512)))) refl;
    }
  where
    go : (i : ℕ) → s.frame (i / 512) ≡ Free → (b : Bool) → both (s.present m) (is_mine m (s.frame (j / 512))) ≡ b → pick b (at s.word j v) s.word i ≡ 0
    go i e true h = at_cases (λ x y. s.frame (x / 512) ≡ Free → y ≡ 0) s.word j v (λ f. absurd (free_not_owned m (sym f ∙ mine_is m (s.frame (j / 512)) (both_right (s.present m) (is_mine m (s.frame (j / 512))) h)))) (λ x d f. g.cleared x f) i e
    go i e false h = g.cleared i e

-- So does a list, done or not.
tries_good : (p : Plan) (s t : State) (number : ℕ) (qs : List Request) → Good p s → Good p t → Good p (all_or_none s (tries p t number qs)).state
tries_good p s t number [] g h = h
tries_good p s t number (q ∷ qs) g h =
    by (λ (x : Tried). Good p (all_or_none s x).state) (is_done (step p t number q).answer) _ _ (λ e. later (step p t number q).answer (tries p (step p t number q).state number qs) (tries_good p s (step p t number q).state number qs g (step_good p t number q h))) (λ e. g)
  where
    later : (a : Answer) (x : Tried) → Good p (all_or_none s x).state → Good p (all_or_none s (before a x)).state
    later a (Through l s') k = k
    later a (Halted i why) k = k

pub call_good : (p : Plan) (s : State) (number : ℕ) (c : Call) → Good p s → Good p (call p s number c).state
call_good p s number (One q) g = step_good p s number q g
call_good p s number (All qs) g = tries_good p s s number qs g g

pub after_good : (p : Plan) (s : State) (x : Event) → Good p s → Good p (after p s x)
after_good p s (Asks number c) g = call_good p s number c g
after_good p s (Writes m j v) g = owner_writes p s m j v g

-- Every sequence of requests and writes keeps `Good`.
pub run_good : (p : Plan) (s : State) (xs : List Event) → Good p s → Good p (run p s xs)
run_good p s [] g = g
run_good p s (x ∷ xs) g = run_good p (after p s x) xs (after_good p s x g)

-- The start's state has it.
pub start_good : (p : Plan) → PlanOk p → Good p (start p)
start_good p ok =
    record {
      plan = ok;
      known = λ m e. never (sym e);
      sets = λ m w. record { ordered = tt; whole = tt; empty = λ e. refl };
      frames = record {
        reserved = λ k u. by (λ f. f ≡ Reserved) (ltb k p.usable) Free Reserved (λ e. absurd (let l = ltb-true k p.usable e in omega arith)) (λ e. refl);
        others = λ k u. by (λ f. f ≡ Reserved → ⊥) (ltb k p.usable) Free Reserved (λ e. not_reserved) (λ e. absurd (let l = ltb-false k p.usable e in omega arith));
        owner = λ m k e. absurd (by (λ f. f ≡ Owned m → ⊥) (ltb k p.usable) Free Reserved (λ x. free_not_owned m) (λ x y. client_not_reserved m (sym y)) e);
      };
      cleared = λ j e. refl;
    }
