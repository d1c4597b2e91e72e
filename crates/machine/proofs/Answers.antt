-- When a request succeeds, and what a refusal leaves. Assumes nothing.
use mathlib.Core.Path.{◌≡◌, refl, sym, ◌∙◌, ap}
use mathlib.Core.Bool.{Bool, true, false, not}
use mathlib.Core.List.{List, []}
use Prim.Native.Nat.{ℕ, ◌+◌, ◌-◌, ◌/◌, ◌%◌, ◌<◌, ◌≤◌}
use lib.Dec.{eqb, ltb}
use lib.ListN.{length}
use native.Mathlib.Decide.{dec_lt}
use native.Mathlib.Omega.{arith}
use borrow.Author.Tests.{eq-eqb, ne_eqb, lt-ltb, le-ltb, eqb-true, eqb-false, ltb-true, ltb-false}
use Rattle.base.specs.Choices.{pick, lowest}
use Rattle.base.proofs.Choices.{never, not_passed, by, both_yes, lowest_yes, lowest_high, lowest_before, all_yes}
use Rattle.address.specs.declared.Region.{Region}
use Rattle.set_model.specs.Sets.{same, meets, covers, any, none, In, find}
use Rattle.set_model.proofs.Tests.{meets_share, share_meets, covers_contains, contains_covers}
use Rattle.set_model.proofs.Lists.{in_any, find_in, find_passes, table_length}
use Rattle.set_model.proofs.Room.{room}
use Rattle.owners.specs.States.{State.Reserved, State.Owned}
use Rattle.machine.specs.declared.Which.{Which}
use Rattle.machine.specs.declared.Which.TheVariants.{Processors, Devices}
use Rattle.machine.specs.declared.Request.{Request}
use Rattle.machine.specs.declared.Request.TheVariants.{AddZone, RemoveZone, RemoveZoneWhole, Insert, Remove, Translate, Alloc, AllocContiguous, Dealloc, DeallocContiguous}
use Rattle.machine.specs.declared.Reason.{Reason}
use Rattle.machine.specs.declared.Reason.TheVariants.{NoMachine, Present, NotPresent, NotEmpty, NotGiven, Overlap, NoRoom, NotInSet, NotMapped, NoFrames, Below, NotAtFrame, Outside, NotTaken, NotYours}
use Rattle.machine.specs.declared.Answer.{Answer}
use Rattle.machine.specs.State.{Plan, State, Outcome, out, refuse, is_free, is_mine, address_of}
use Rattle.machine.specs.Step.{machine_of, givens, fits, takes, first_other, gives_back, gives, is_empty, present, absent, act, step}
use Rattle.machine.specs.Good.{Good}
use Rattle.machine.specs.Parts.{Refused}
use Rattle.machine.specs.Conditions.{Succeeds, Empty, Enterable, Mapped, Runs, Held, May}
use Rattle.machine.proofs.Frames.{not_mine, run_free, run_aligned, run_fits, before_other, at_other_one}
use Rattle.owners.proofs.States.{not_reserved}
use Rattle.machine.proofs.Keeps.{given_valid, owned_usable, empty_sets, empty_frames}

-- ---- a refusal changes nothing

-- an outcome of s: a refusal left it as it was, and "corrupt" is not answered
record Fair (s : State) (o : Outcome) : Type 0 where
  kept : Refused o.answer → o.state ≡ s
  sound : o.answer ≡ Answer.Corrupt → ⊥

is_corrupt : Answer → Bool
is_corrupt Answer.Done = false
is_corrupt (Answer.Address a) = false
is_corrupt (Answer.No why) = false
is_corrupt Answer.Corrupt = true

fair_no : (s : State) (why : Reason) → Fair s (refuse why s)
unfolding is_corrupt
fair_no s why = record { kept = λ r. refl; sound = λ e. never (sym (ap is_corrupt e)) }

fair_done : (s s' : State) → Fair s (out Answer.Done s')
unfolding is_corrupt
fair_done s s' = record { kept = λ r. absurd r; sound = λ e. never (sym (ap is_corrupt e)) }

fair_address : (s s' : State) (a : ℕ) → Fair s (out (Answer.Address a) s')
unfolding is_corrupt
fair_address s s' a = record { kept = λ r. absurd r; sound = λ e. never (sym (ap is_corrupt e)) }

module _ (p : Plan) (s : State) (m : ℕ) where
  takes_fair : (n a : ℕ) → Fair s (takes p s m n a)
  takes_fair n a = by (Fair s) (eqb n 0) _ _ (λ e. fair_no s NoFrames) (λ e. by (Fair s) (ltb (lowest (fits p s n a) p.frames) p.frames) _ _ (λ f. fair_address s _ _) (λ f. fair_no s NoRoom))

  gives_fair : (addr n : ℕ) → Fair s (gives p s m addr n)
  gives_fair addr n =
      let k = (addr - address_of p 0) / 4096 in
      let r = first_other s.frame m k n in
      by (Fair s) (ltb addr (address_of p 0)) _ _ (λ e. fair_no s Below)
      (λ e. by (Fair s) (eqb ((addr - address_of p 0) % 4096) 0) _ _
      (λ f. by (Fair s) (eqb n 0) _ _ (λ x. fair_no s NoFrames)
      (λ x. by (Fair s) (ltb p.frames (k + n)) _ _ (λ y. fair_no s Outside)
      (λ y. by (Fair s) (ltb r (k + n)) _ _ (λ z. by (Fair s) (is_free (s.frame r)) _ _ (λ q. fair_no s NotTaken) (λ q. fair_no s NotYours)) (λ z. fair_done s _))))
      (λ f. fair_no s NotAtFrame))

  present_fair : (q : Request) → Fair s (present p s m q)
  present_fair AddZone = fair_no s Present
  present_fair RemoveZone = by (Fair s) (is_empty p s m) _ _ (λ e. fair_done s _) (λ e. fair_no s NotEmpty)
  present_fair RemoveZoneWhole = fair_done s _
  present_fair (Insert w r) =
      by (Fair s) (any (same r) (givens p.config m w)) _ _
      (λ e. by (Fair s) (any (meets r) (s.set m w)) _ _ (λ f. fair_no s Overlap) (λ f. by (Fair s) (ltb (length (s.set m w)) p.slots) _ _ (λ x. fair_done s _) (λ x. fair_no s NoRoom)))
      (λ e. fair_no s NotGiven)
  present_fair (Remove w r) = by (Fair s) (any (same r) (s.set m w)) _ _ (λ e. fair_done s _) (λ e. fair_no s NotInSet)
  present_fair (Translate w addr) = by (Fair s) (any (covers addr) (s.set m w)) _ _ (λ e. fair_address s _ _) (λ e. fair_no s NotMapped)
  present_fair Alloc = takes_fair 1 0
  present_fair (AllocContiguous n a) = takes_fair n a
  present_fair (Dealloc addr) = gives_fair addr 1
  present_fair (DeallocContiguous addr n) = gives_fair addr n

  absent_fair : (q : Request) → Fair s (absent s m q)
  absent_fair AddZone = fair_done s _
  absent_fair RemoveZone = fair_no s NotPresent
  absent_fair RemoveZoneWhole = fair_no s NotPresent
  absent_fair (Insert w r) = fair_no s NotPresent
  absent_fair (Remove w r) = fair_no s NotPresent
  absent_fair (Translate w addr) = fair_no s NotPresent
  absent_fair Alloc = fair_no s NotPresent
  absent_fair (AllocContiguous n a) = fair_no s NotPresent
  absent_fair (Dealloc addr) = fair_no s NotPresent
  absent_fair (DeallocContiguous addr n) = fair_no s NotPresent

fair : (p : Plan) (s : State) (number : ℕ) (q : Request) → Fair s (step p s number q)
unfolding step
fair p s number q =
    let m = machine_of p.config number in
    by (Fair s) (ltb m p.config.machines) _ _ (λ e. by (Fair s) (s.present m) _ _ (λ h. present_fair p s m q) (λ h. absent_fair p s m q)) (λ e. fair_no s NoMachine)

-- A refusal changes nothing at all.
pub refused_nothing : (p : Plan) (s : State) (number : ℕ) (q : Request) → Refused (step p s number q).answer → (step p s number q).state ≡ s
refused_nothing p s number q = (fair p s number q).kept

-- "Corrupt" is never answered.
pub never_corrupt : (p : Plan) (s : State) (number : ℕ) (q : Request) → (step p s number q).answer ≡ Answer.Corrupt → ⊥
never_corrupt p s number q = (fair p s number q).sound

-- ---- a request succeeds exactly if its conditions hold

-- to succeed means P
pub record Exactly (o : Outcome) (P : Type 0) : Type 0 where
  pub only : Succeeds o.answer → P
  pub if : P → Succeeds o.answer

-- where a test decides
decided : {P : Type 0} (b : Bool) (o o' : Outcome) → Succeeds o.answer → (Succeeds o'.answer → ⊥) → (b ≡ true → P) → (P → b ≡ true) → Exactly (pick b o o') P
decided true o o' yes-it-does n to back = record { only = λ x. to refl; if = λ x. yes-it-does }
decided false o o' yes-it-does n to back = record { only = λ x. absurd (n x); if = λ x. never (sym (back x)) }

-- where a test must pass before another
passed : {P : Type 0} (b : Bool) (o o' : Outcome) → (b ≡ true → Exactly o P) → (Succeeds o'.answer → ⊥) → (P → b ≡ true) → Exactly (pick b o o') P
passed true o o' x n back = x refl
passed false o o' x n back = record { only = λ y. absurd (n y); if = λ y. never (sym (back y)) }

-- where a test must fail before another
failed : {P : Type 0} (b : Bool) (o o' : Outcome) → (Succeeds o.answer → ⊥) → (b ≡ false → Exactly o' P) → (P → b ≡ false) → Exactly (pick b o o') P
failed true o o' n x back = record { only = λ y. absurd (n y); if = λ y. never (back y) }
failed false o o' n x back = x refl

is_none : (l : List Region) → l ≡ [] → none l ≡ true
is_none l e = ap none e

none_mine : (b : Bool) → b ≡ false → not b ≡ true
none_mine b e = ap not e

module _ (p : Plan) (s : State) (m : ℕ) (g : Good p s) where
  -- every frame that is not reserved is one of those that there are
  there : (k : ℕ) → (s.frame k ≡ Reserved → ⊥) → k < p.frames
  there k n = go (dec_lt k p.frames)
    where
      go : Dec (k < p.frames) → k < p.frames
      go (yes l) = l
      go (no l) = absurd (n (g.frames.reserved k (let a = g.plan.pages in let b = g.plan.frames in omega (arith, l))))

  goes_exactly : Exactly (present p s m RemoveZone) (Empty s m)
  goes_exactly =
      decided (is_empty p s m) _ _ tt (λ x. x)
      (λ e. record { regions = empty_sets p s m e; frames = λ k o. empty_frames p s m e k (let u = owned_usable p s g m k o in let a = g.plan.pages in let b = g.plan.frames in omega arith) o })
      (λ x. both_yes (is_none (s.set m Processors) (x.regions Processors)) (both_yes (is_none (s.set m Devices) (x.regions Devices)) (all_yes (λ k. not (is_mine m (s.frame k))) 0 p.frames (λ j a b. none_mine (is_mine m (s.frame j)) (not_mine m (s.frame j) (x.frames j))))))

  enters_exactly : (w : Which) (r : Region) → Exactly (present p s m (Insert w r)) (Enterable p s m w r)
  enters_exactly w r =
      passed (any (same r) (givens p.config m w)) _ _
      (λ e. failed (any (meets r) (s.set m w)) _ _ (λ x. x)
      (λ f. decided (ltb (length (s.set m w)) p.slots) _ _ tt (λ x. x)
      (λ h. record { given = e; clear = λ x i h. never (sym (in_any (meets r) x (s.set m w) i (share_meets r x h)) ∙ f); room = ltb-true (length (s.set m w)) p.slots h })
      (λ x. lt-ltb (length (s.set m w)) p.slots x.room))
      (λ x. not_passed (any (meets r) (s.set m w)) (λ e. x.clear (find (meets r) (s.set m w)) (find_in (meets r) (s.set m w) e) (meets_share r (find (meets r) (s.set m w)) (find_passes (meets r) (s.set m w) e)))))
      (λ x. x) (λ x. x.given)

  leaves_exactly : (w : Which) (r : Region) → Exactly (present p s m (Remove w r)) (In r (s.set m w))
  leaves_exactly w r = decided (any (same r) (s.set m w)) _ _ tt (λ x. x) (λ e. e) (λ e. e)

  translates_exactly : (w : Which) (addr : ℕ) → Exactly (present p s m (Translate w addr)) (Mapped s m w addr)
  translates_exactly w addr =
      decided (any (covers addr) (s.set m w)) _ _ tt (λ x. x)
      (λ e. record { region = find (covers addr) (s.set m w); listed = find_in (covers addr) (s.set m w) e; has = covers_contains addr (find (covers addr) (s.set m w)) (find_passes (covers addr) (s.set m w) e) })
      (λ x. in_any (covers addr) x.region (s.set m w) x.listed (contains_covers addr x.region x.has))

  takes_exactly : (n a : ℕ) → Exactly (takes p s m n a) (Runs s n a)
  takes_exactly n a =
      let k = lowest (fits p s n a) p.frames in
      failed (eqb n 0) _ _ (λ x. x)
      (λ e. decided (ltb k p.frames) _ _ tt (λ x. x)
      (λ h. let f = lowest_yes (fits p s n a) p.frames (ltb-true k p.frames h) in record { some = positive (eqb-false n 0 e); first = k; aligned = run_aligned p s n a k f; free = run_free p s n a k f })
      (λ x. lt-ltb k p.frames (found n a x)))
      (λ x. ne_eqb n 0 (λ q. let l = x.some in omega arith))
    where
      positive : {n : ℕ} → (n ≡ 0 → ⊥) → 0 < n
      positive {n} d = go (dec_lt 0 n)
        where
          go : Dec (0 < n) → 0 < n
          go (yes l) = l
          go (no l) = absurd (d (omega (arith, l)))

      found : (n a : ℕ) → Runs s n a → lowest (fits p s n a) p.frames < p.frames
      found n a x = go (dec_lt (lowest (fits p s n a) p.frames) p.frames)
        where
          last : x.first + n ≤ p.frames
          last = let l = x.some in let t = there (x.first + n - 1) (λ q. not_reserved (sym (x.free (x.first + n - 1) (omega arith) (omega arith)) ∙ q)) in omega arith

          go : Dec (lowest (fits p s n a) p.frames < p.frames) → lowest (fits p s n a) p.frames < p.frames
          go (yes l) = l
          go (no l) = never (sym (run_fits p s n a x.first x.aligned last x.free) ∙ lowest_before (fits p s n a) p.frames x.first (let o = x.some in let h = lowest_high (fits p s n a) p.frames in omega (arith, l, last)))

  gives_exactly : (addr n : ℕ) → Exactly (gives p s m addr n) (Held p s m addr n)
  gives_exactly addr n =
      failed (ltb addr (address_of p 0)) _ _ (λ x. x)
      (λ e. passed (eqb ((addr - address_of p 0) % 4096) 0) _ _ (λ f. back (ltb-false addr (address_of p 0) e) (eqb-true ((addr - address_of p 0) % 4096) 0 f)) (λ x. x) (λ x. eq-eqb ((addr - address_of p 0) % 4096) 0 (let q = x.place in omega arith)))
      (λ x. le-ltb addr (address_of p 0) (let q = x.place in omega arith))
    where
      k : ℕ
      k = (addr - address_of p 0) / 4096

      r : ℕ
      r = first_other s.frame m k n

      same_first : (x : Held p s m addr n) → x.first ≡ k
      same_first x = let q = x.place in omega arith

      mine : (x : Held p s m addr n) (j : ℕ) → k ≤ j → j < k + n → s.frame j ≡ Owned m
      mine x j a b = let e = same_first x in x.mine j (omega arith) (omega arith)

      last : Held p s m addr n → k + n ≤ p.frames
      last x = let l = x.some in let t = owned_usable p s g m (k + n - 1) (mine x (k + n - 1) (omega arith) (omega arith)) in let a = g.plan.pages in let b = g.plan.frames in omega arith

      none_other : (x : Held p s m addr n) → Dec (r < k + n) → k + n ≤ r
      none_other x (yes l) = absurd (at_other_one s.frame m k n l (mine x r (omega arith) l))
      none_other x (no l) = omega (arith, l)

      back : address_of p 0 ≤ addr → (addr - address_of p 0) % 4096 ≡ 0 → Exactly (gives_back p s m k n) (Held p s m addr n)
      back low even =
          failed (eqb n 0) _ _ (λ x. x)
          (λ e. failed (ltb p.frames (k + n)) _ _ (λ x. x)
          (λ f. failed (ltb r (k + n)) _ _ (by (λ (o : Outcome). Succeeds o.answer → ⊥) (is_free (s.frame r)) _ _ (λ q x. x) (λ q x. x))
          (λ h. record {
            only = λ x. record { some = (let d = eqb-false n 0 e in omega (arith, d)); first = k; place = omega arith; mine = λ j a b. before_other s.frame m k n j a (let l = ltb-false r (k + n) h in omega arith) };
            if = λ x. tt;
          })
          (λ x. le-ltb r (k + n) (none_other x (dec_lt r (k + n)))))
          (λ x. le-ltb p.frames (k + n) (last x)))
          (λ x. ne_eqb n 0 (λ q. let l = x.some in omega arith))

  -- beside what is known already
  also : {o : Outcome} {P Q : Type 0} → Q → Exactly o P → Exactly o (Q × P)
  also q x = record { only = λ y. (q, x.only y); if = λ y. x.if y.1 }

  -- of a machine that must be there
  there_first : {P : Type 0} (o o' : Outcome) → Exactly o P → (Succeeds o'.answer → ⊥) → Exactly (pick (s.present m) o o') ((s.present m ≡ true) × P)
  there_first o o' x n = passed (s.present m) o o' (λ h. also h x) n (λ y. y.0)

  act_exactly : (q : Request) → Exactly (act p s m q) (May p s m q)
  act_exactly AddZone = failed (s.present m) _ _ (λ x. x) (λ h. record { only = λ x. h; if = λ x. tt }) (λ x. x)
  act_exactly RemoveZone = there_first _ _ goes_exactly (λ x. x)
  act_exactly RemoveZoneWhole = passed (s.present m) _ _ (λ h. record { only = λ x. h; if = λ x. tt }) (λ x. x) (λ x. x)
  act_exactly (Insert w r) = there_first _ _ (enters_exactly w r) (λ x. x)
  act_exactly (Remove w r) = there_first _ _ (leaves_exactly w r) (λ x. x)
  act_exactly (Translate w addr) = there_first _ _ (translates_exactly w addr) (λ x. x)
  act_exactly Alloc = there_first _ _ (takes_exactly 1 0) (λ x. x)
  act_exactly (AllocContiguous n a) = there_first _ _ (takes_exactly n a) (λ x. x)
  act_exactly (Dealloc addr) = there_first _ _ (gives_exactly addr 1) (λ x. x)
  act_exactly (DeallocContiguous addr n) = there_first _ _ (gives_exactly addr n) (λ x. x)

-- A request succeeds exactly if its asker is configured and its conditions hold.
pub succeeds_exactly : (p : Plan) (s : State) → Good p s → (number : ℕ) (q : Request) → Exactly (step p s number q) ((machine_of p.config number < p.config.machines) × May p s (machine_of p.config number) q)
unfolding step
succeeds_exactly p s g number q =
    let m = machine_of p.config number in
    passed (ltb m p.config.machines) _ _ (λ e. also p s m g (ltb-true m p.config.machines e) (act_exactly p s m g q)) (λ x. x) (λ y. lt-ltb m p.config.machines y.0)

-- ---- there is always room

is_full : Reason → Bool
is_full NoMachine = false
is_full Present = false
is_full NotPresent = false
is_full NotEmpty = false
is_full NotGiven = false
is_full Overlap = false
is_full NoRoom = true
is_full NotInSet = false
is_full NotMapped = false
is_full NoFrames = false
is_full Below = false
is_full NotAtFrame = false
is_full Outside = false
is_full NotTaken = false
is_full NotYours = false

says_full : Answer → Bool
says_full Answer.Done = false
says_full (Answer.Address a) = false
says_full (Answer.No why) = is_full why
says_full Answer.Corrupt = false

-- a region that the machine is given and that meets none of the set finds room
pub has_room : (p : Plan) (s : State) → Good p s → (m : ℕ) (w : Which) (r : Region) → m < p.config.machines → In r (givens p.config m w) → any (meets r) (s.set m w) ≡ false → length (s.set m w) < p.slots
has_room p s g m w r l i n =
    let q = room (s.set m w) (givens p.config m w) r (g.sets m w).ordered (g.sets m w).whole (given_valid p g.plan m w r l i).on.some i n in
    let e = table_length (p.config.region m) (p.config.count m) in
    let f = g.plan.room m l in omega arith

-- an answer that does not say so
not_full_lem : (a : Answer) → says_full a ≡ false → a ≡ Answer.No NoRoom → ⊥
unfolding is_full says_full
not_full_lem a e q = never (sym (ap says_full q) ∙ e)

-- "No room" is never answered to an insertion.
pub never_full : (p : Plan) (s : State) → Good p s → (number : ℕ) (w : Which) (r : Region) → (step p s number (Insert w r)).answer ≡ Answer.No NoRoom → ⊥
unfolding step is_full says_full
never_full p s g number w r =
    let m = machine_of p.config number in
    by Ok (ltb m p.config.machines) _ _
    (λ l. by Ok (s.present m) _ _
    (λ h. by Ok (any (same r) (givens p.config m w)) _ _
    (λ e. by Ok (any (meets r) (s.set m w)) _ _ (λ f. not_full_lem (Answer.No Overlap) refl)
    (λ f. by Ok (ltb (length (s.set m w)) p.slots) _ _ (λ x. not_full_lem Answer.Done refl) (λ x. absurd (let a = has_room p s g m w r (ltb-true m p.config.machines l) e f in let b = ltb-false (length (s.set m w)) p.slots x in omega arith))))
    (λ e. not_full_lem (Answer.No NotGiven) refl))
    (λ h. not_full_lem (Answer.No NotPresent) refl))
    (λ l. not_full_lem (Answer.No NoMachine) refl)
  where
    Ok : Outcome → Type 0
    Ok o = o.answer ≡ Answer.No NoRoom → ⊥
