-- What `step` answers, case by case. Assumes nothing.
use mathlib.Core.Path.{◌≡◌, ap}
use mathlib.Core.Bool.{true, false, not}
use Prim.Native.Nat.{ℕ, ◌+◌, ◌-◌, ◌/◌, ◌%◌, ◌<◌, ◌≤◌}
use lib.ListN.{length}
use native.Mathlib.Omega.{arith}
use borrow.Author.Tests.{eq-eqb, ne_eqb, lt-ltb, le-ltb}
use Rattle.base.proofs.Choices.{lowest_is, lowest_none}
use Rattle.address.specs.declared.Region.{Region}
use Rattle.address.specs.Regions.{host_of}
use Rattle.set_model.specs.Sets.{same, meets, covers, any, find, enter, without}
use Rattle.owners.specs.States as frames
use Rattle.owners.specs.States.{State.Free, State.Owned}
use Rattle.machine.specs.declared.Which.{Which}
use Rattle.machine.specs.declared.Request.{Request}
use Rattle.machine.specs.declared.Reason.TheVariants.{NoMachine, NotEmpty, NotGiven, Overlap, NoRoom, NotInSet, NotMapped, NoFrames, Below, NotAtFrame, Outside, NotTaken, NotYours}
use Rattle.machine.specs.declared.Answer.TheVariants.{Done, Address}
use Rattle.machine.specs.State.{Plan, State, out, refuse, is_mine, address_of, with_present, with_set, taken, freed}
use Rattle.machine.specs.Step.{machine_of, givens, enters, leaves, translates, fits, takes, first_other, gives_back, gives, is_empty, goes, present, absent, step}
use Rattle.machine.proofs.Frames.{is_free_lem, not_free, is_mine_lem, not_mine}

-- ---- who asks

module _ (p : Plan) (s : State) (number : ℕ) (q : Request) where
  pub of_present : machine_of p.config number < p.config.machines → s.present (machine_of p.config number) ≡ true → step p s number q ≡ present p s (machine_of p.config number) q
  unfolding step
  of_present l e = rw (lt-ltb (machine_of p.config number) p.config.machines l, e)

  pub of_absent : machine_of p.config number < p.config.machines → s.present (machine_of p.config number) ≡ false → step p s number q ≡ absent s (machine_of p.config number) q
  unfolding step
  of_absent l e = rw (lt-ltb (machine_of p.config number) p.config.machines l, e)

  pub of_nobody : machine_of p.config number ≡ p.config.machines → step p s number q ≡ refuse NoMachine s
  unfolding step
  of_nobody e = rw (le-ltb (machine_of p.config number) p.config.machines (omega arith))

-- ---- regions

module _ (p : Plan) (s : State) (m : ℕ) (w : Which) (r : Region) where
  pub not_given_lem : any (same r) (givens p.config m w) ≡ false → enters p s m w r ≡ refuse NotGiven s
  not_given_lem e = rw e

  pub overlapping : any (same r) (givens p.config m w) ≡ true → any (meets r) (s.set m w) ≡ true → enters p s m w r ≡ refuse Overlap s
  overlapping e f = rw (e, f)

  pub set_full : any (same r) (givens p.config m w) ≡ true → any (meets r) (s.set m w) ≡ false → p.slots ≤ length (s.set m w) → enters p s m w r ≡ refuse NoRoom s
  set_full e f l = rw (e, f, le-ltb (length (s.set m w)) p.slots l)

  pub enters_set : any (same r) (givens p.config m w) ≡ true → any (meets r) (s.set m w) ≡ false → length (s.set m w) < p.slots → enters p s m w r ≡ out Done (with_set s m w (enter r (s.set m w)))
  enters_set e f l = rw (e, f, lt-ltb (length (s.set m w)) p.slots l)

  pub not_in_set_lem : any (same r) (s.set m w) ≡ false → leaves s m w r ≡ refuse NotInSet s
  not_in_set_lem e = rw e

  pub leaves_set : any (same r) (s.set m w) ≡ true → leaves s m w r ≡ out Done (with_set s m w (without (same r) (s.set m w)))
  leaves_set e = rw e

module _ (s : State) (m : ℕ) (w : Which) (addr : ℕ) where
  pub not_mapped_lem : any (covers addr) (s.set m w) ≡ false → translates s m w addr ≡ refuse NotMapped s
  not_mapped_lem e = rw e

  pub is_mapped : any (covers addr) (s.set m w) ≡ true → translates s m w addr ≡ out (Address (host_of (find (covers addr) (s.set m w)).guest (find (covers addr) (s.set m w)).host addr)) s
  is_mapped e = rw e

-- ---- frames to be taken

module _ (p : Plan) (s : State) (m n a : ℕ) where
  pub takes_none : n ≡ 0 → takes p s m n a ≡ refuse NoFrames s
  takes_none e = rw (eq-eqb n 0 e)

  pub takes_nothing : 0 < n → ((k : ℕ) → k < p.frames → fits p s n a k ≡ false) → takes p s m n a ≡ refuse NoRoom s
  takes_nothing l f = rw (ne_eqb n 0 (λ e. omega arith), lowest_none (fits p s n a) p.frames f, le-ltb p.frames p.frames (omega arith))

  pub takes_run : (k : ℕ) → 0 < n → k < p.frames → fits p s n a k ≡ true → ((j : ℕ) → j < k → fits p s n a j ≡ false) → takes p s m n a ≡ out (Address (address_of p k)) (taken s m k n)
  takes_run k l h f o = rw (ne_eqb n 0 (λ e. omega arith), lowest_is (fits p s n a) p.frames k h f o, lt-ltb k p.frames h)

-- ---- frames to be given back

module _ (f : ℕ → frames.State) (m k n : ℕ) where
  -- r is the first of the run that is not m's
  pub other_is : (r : ℕ) → k ≤ r → r < k + n → ((j : ℕ) → k ≤ j → j < r → f j ≡ Owned m) → (f r ≡ Owned m → ⊥) → first_other f m k n ≡ r
  other_is r l h before here =
      let e : k + (r - k) ≡ r = omega arith in
      let q = lowest_is (λ j. not (is_mine m (f (k + j)))) n (r - k) (omega arith) (rw e (ap not (not_mine m (f r) here))) (λ j b. ap not (is_mine_lem m (f (k + j)) (before (k + j) (omega arith) (omega arith)))) in
      omega arith

  -- all of the run are m's
  pub no_other : ((j : ℕ) → k ≤ j → j < k + n → f j ≡ Owned m) → first_other f m k n ≡ k + n
  no_other all = let q = lowest_none (λ j. not (is_mine m (f (k + j)))) n (λ j b. ap not (is_mine_lem m (f (k + j)) (all (k + j) (omega arith) (omega arith)))) in omega arith

module _ (p : Plan) (s : State) (m addr n : ℕ) where
  pub gives_below : addr < address_of p 0 → gives p s m addr n ≡ refuse Below s
  gives_below l = rw (lt-ltb addr (address_of p 0) l)

  pub gives_between : address_of p 0 ≤ addr → ((addr - address_of p 0) % 4096 ≡ 0 → ⊥) → gives p s m addr n ≡ refuse NotAtFrame s
  gives_between l d = rw (le-ltb addr (address_of p 0) l, ne_eqb ((addr - address_of p 0) % 4096) 0 d)

  -- the run begins at frame k
  pub gives_at : (k : ℕ) → addr ≡ address_of p k → gives p s m addr n ≡ gives_back p s m k n
  gives_at k e =
      let q : (addr - address_of p 0) / 4096 ≡ k = omega arith in
      rw (le-ltb addr (address_of p 0) (omega arith), eq-eqb ((addr - address_of p 0) % 4096) 0 (omega arith)) (ap (λ (x : ℕ). gives_back p s m x n) q)

module _ (p : Plan) (s : State) (m k n : ℕ) where
  pub back_none : n ≡ 0 → gives_back p s m k n ≡ refuse NoFrames s
  back_none e = rw (eq-eqb n 0 e)

  pub back_outside : 0 < n → p.frames < k + n → gives_back p s m k n ≡ refuse Outside s
  back_outside l h = rw (ne_eqb n 0 (λ e. omega arith), lt-ltb p.frames (k + n) h)

  pub back_free : (r : ℕ) → 0 < n → k + n ≤ p.frames → first_other s.frame m k n ≡ r → r < k + n → s.frame r ≡ Free → gives_back p s m k n ≡ refuse NotTaken s
  back_free r l h e b f = rw (ne_eqb n 0 (λ e. omega arith), le-ltb p.frames (k + n) h, e, lt-ltb r (k + n) b, is_free_lem (s.frame r) f)

  pub back_others : (r : ℕ) → 0 < n → k + n ≤ p.frames → first_other s.frame m k n ≡ r → r < k + n → (s.frame r ≡ Free → ⊥) → gives_back p s m k n ≡ refuse NotYours s
  back_others r l h e b f = rw (ne_eqb n 0 (λ e. omega arith), le-ltb p.frames (k + n) h, e, lt-ltb r (k + n) b, not_free (s.frame r) f)

  pub back_done : 0 < n → k + n ≤ p.frames → ((j : ℕ) → k ≤ j → j < k + n → s.frame j ≡ Owned m) → gives_back p s m k n ≡ out Done (freed s k n)
  back_done l h all = rw (ne_eqb n 0 (λ e. omega arith), le-ltb p.frames (k + n) h, no_other s.frame m k n all, le-ltb (k + n) (k + n) (omega arith))

-- ---- machines

module _ (p : Plan) (s : State) (m : ℕ) where
  pub not_empty_lem : is_empty p s m ≡ false → goes p s m ≡ refuse NotEmpty s
  not_empty_lem e = rw e

  pub goes_away : is_empty p s m ≡ true → goes p s m ≡ out Done (with_present s m false)
  goes_away e = rw e
