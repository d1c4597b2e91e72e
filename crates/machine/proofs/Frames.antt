-- What a frame is, by tests, and runs of frames. Assumes nothing.
use mathlib.Core.Path.{◌≡◌, refl, sym, ◌∙◌, ap}
use mathlib.Core.Bool.{Bool, true, false, not}
use Prim.Native.Nat.{ℕ, ◌+◌, ◌-◌, ◌%◌, ◌^◌, ◌<◌, ◌≤◌}
use lib.Dec.{eqb, leb}
use native.Mathlib.Omega.{arith}
use borrow.Author.Tests.{eq-eqb, ne_eqb, eqb-true, leb-true, le-leb}
use Rattle.base.specs.Choices.{both, all_from}
use Rattle.base.proofs.Choices.{never, is_false, is_true, both_left, both_right, both_yes, all_at, all_yes, lowest_yes, lowest_before}
use Rattle.owners.specs.States as frames
use Rattle.owners.specs.States.{State.Free, State.Reserved, State.Owned}
use Rattle.machine.specs.State.{Plan, State, is_free, is_mine}
use Rattle.machine.specs.Step.{fits, first_other}

-- ---- one frame

pub free_is : (f : frames.State) → is_free f ≡ true → f ≡ Free
free_is Free e = refl
free_is Reserved e = never (sym e)
free_is (Owned c) e = never (sym e)

pub is_free_lem : (f : frames.State) → f ≡ Free → is_free f ≡ true
is_free_lem f e = ap is_free e

pub mine_is : (m : ℕ) (f : frames.State) → is_mine m f ≡ true → f ≡ Owned m
mine_is m Free e = never (sym e)
mine_is m Reserved e = never (sym e)
mine_is m (Owned c) e = ap Owned (eqb-true c m e)

pub is_mine_lem : (m : ℕ) (f : frames.State) → f ≡ Owned m → is_mine m f ≡ true
is_mine_lem m f e = ap (is_mine m) e ∙ eq-eqb m m refl

pub not_mine : (m : ℕ) (f : frames.State) → (f ≡ Owned m → ⊥) → is_mine m f ≡ false
not_mine m Free d = refl
not_mine m Reserved d = refl
not_mine m (Owned c) d = ne_eqb c m (λ e. d (ap Owned e))

pub not_free : (f : frames.State) → (f ≡ Free → ⊥) → is_free f ≡ false
not_free Free d = absurd (d refl)
not_free Reserved d = refl
not_free (Owned c) d = refl

-- a frame is one of the three
pub free_not_owned : (m : ℕ) → Free ≡ Owned m → ⊥
free_not_owned m e = never (ap is_free e)

pub owned_once : (m c : ℕ) → Owned m ≡ Owned c → m ≡ c
owned_once m c e = eqb-true m c (ap (is_mine c) e ∙ eq-eqb c c refl)

-- a frame of one machine is no other's
pub mine_once : (m m' : ℕ) (f : frames.State) → (m' ≡ m → ⊥) → is_mine m f ≡ true → is_mine m' f ≡ false
mine_once m m' f d e = not_mine m' f (λ q. d (owned_once m' m (sym q ∙ mine_is m f e)))

pub free_no_one : (m : ℕ) (f : frames.State) → f ≡ Free → is_mine m f ≡ false
free_no_one m f e = ap (is_mine m) e

-- ---- runs

-- a run that fits is free, whole and aligned
module _ (p : Plan) (s : State) (n a k : ℕ) (e : fits p s n a k ≡ true) where
  inner : Bool
  inner = both (leb (k + n) p.frames) (all_from (λ j. is_free (s.frame j)) k n)

  pub run_aligned : k % 2 ^ a ≡ 0
  unfolding inner
  run_aligned = eqb-true (k % 2 ^ a) 0 (both_left (eqb (k % 2 ^ a) 0) inner e)

  rest : inner ≡ true
  unfolding inner
  rest = both_right (eqb (k % 2 ^ a) 0) inner e

  pub run_within : k + n ≤ p.frames
  unfolding inner
  run_within = leb-true (k + n) p.frames (both_left (leb (k + n) p.frames) (all_from (λ j. is_free (s.frame j)) k n) rest)

  pub run_free : (j : ℕ) → k ≤ j → j < k + n → s.frame j ≡ Free
  unfolding inner
  run_free j l h = free_is (s.frame j) (all_at (λ j. is_free (s.frame j)) k n (both_right (leb (k + n) p.frames) (all_from (λ j. is_free (s.frame j)) k n) rest) j l h)

-- a free, whole and aligned run fits
pub run_fits : (p : Plan) (s : State) (n a k : ℕ) → k % 2 ^ a ≡ 0 → k + n ≤ p.frames → ((j : ℕ) → k ≤ j → j < k + n → s.frame j ≡ Free) → fits p s n a k ≡ true
run_fits p s n a k al l f = both_yes (eq-eqb (k % 2 ^ a) 0 al) (both_yes (le-leb (k + n) p.frames l) (all_yes (λ j. is_free (s.frame j)) k n (λ j x y. is_free_lem (s.frame j) (f j x y))))

-- ---- frames to be given back

-- every frame before the first other one is m's
pub before_other : (f : ℕ → frames.State) (m k n : ℕ) (j : ℕ) → k ≤ j → j < first_other f m k n → f j ≡ Owned m
before_other f m k n j l h =
    let e : k + (j - k) ≡ j = omega arith in
    mine_is m (f j) (rw e at (is_true (is_mine m (f (k + (j - k)))) (lowest_before (λ i. not (is_mine m (f (k + i)))) n (j - k) (omega arith))))

-- and the first other one is not
pub at_other_one : (f : ℕ → frames.State) (m k n : ℕ) → first_other f m k n < k + n → f (first_other f m k n) ≡ Owned m → ⊥
at_other_one f m k n h e = never (sym (is_mine_lem m (f (first_other f m k n)) e) ∙ is_false (is_mine m (f (first_other f m k n))) (lowest_yes (λ i. not (is_mine m (f (k + i)))) n (omega arith)))
