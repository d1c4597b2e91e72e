-- The laws of choices, of changed functions and of the lowest number. Assumes nothing.
use Prim.Native.Nat.{ℕ, zero, suc, ◌+◌, ◌<◌, ◌≤◌, suc-le-suc, zero-le}
use mathlib.Core.Path.{◌≡◌, refl, sym, ap}
use mathlib.Core.Bool.{Bool, true, false, not, true≢false}
use lib.Dec.{ltb, leb, eqb}
use native.Mathlib.Nat.{not-suc-le-zero, le_of_suc-le-suc}
use native.Mathlib.Decide.{ℕ_discrete}
use native.Mathlib.Omega.{arith}
use borrow.Author.Tests.{eq-eqb, ne_eqb, ltb-true, ltb-false, leb-true, leb-false, eqb-true, eqb-false}
use Rattle.base.specs.Ranges.{Outside}
use Rattle.base.specs.Choices.{pick, both, at, within, at_run, lowest, all_from}

-- a test that passes and does not
pub never : {A : Type 0} → true ≡ false → A
never e = absurd (true≢false e)

-- a test that cannot pass fails, and one that cannot fail passes
pub not_passed : (b : Bool) → (b ≡ true → ⊥) → b ≡ false
not_passed true n = absurd (n refl)
not_passed false n = refl

pub not_failed : (b : Bool) → (b ≡ false → ⊥) → b ≡ true
not_failed true n = refl
not_failed false n = absurd (n refl)

-- a test of which the opposite passes fails, and the other way round
pub is_false : (b : Bool) → not b ≡ true → b ≡ false
is_false true e = sym e
is_false false e = refl

pub is_true : (b : Bool) → not b ≡ false → b ≡ true
is_true true e = refl
is_true false e = sym e

-- by cases on a test
pub by : {A : Type 0} (P : A → Type 0) (t : Bool) (a b : A) → (t ≡ true → P a) → (t ≡ false → P b) → P (pick t a b)
by P true a b p q = p refl
by P false a b p q = q refl

pub by2 : {A : Type 0} (R : A → A → Type 0) (t : Bool) (a b a' b' : A) → (t ≡ true → R a a') → (t ≡ false → R b b') → R (pick t a b) (pick t a' b')
by2 R true a b a' b' p q = p refl
by2 R false a b a' b' p q = q refl

pub both_yes : {a b : Bool} → a ≡ true → b ≡ true → both a b ≡ true
both_yes {a} {b} p q = rw (p, q)

pub both_left : (a b : Bool) → both a b ≡ true → a ≡ true
both_left true b e = refl
both_left false b e = e

pub both_right : (a b : Bool) → both a b ≡ true → b ≡ true
both_right true b e = e
both_right false b e = never (sym e)

-- ---- a function changed at one number

pub at_here : {A : Type 0} (f : ℕ → A) (k : ℕ) (v : A) → at f k v k ≡ v
at_here f k v = rw (eq-eqb k k refl)

pub at_other : {A : Type 0} (f : ℕ → A) (k : ℕ) (v : A) (m : ℕ) → (m ≡ k → ⊥) → at f k v m ≡ f m
at_other f k v m d = rw (ne_eqb m k d)

-- what holds of v at k, and of f elsewhere
pub at_cases : {A : Type 0} (P : ℕ → A → Type 0) (f : ℕ → A) (k : ℕ) (v : A) → P k v → ((j : ℕ) → (j ≡ k → ⊥) → P j (f j)) → (j : ℕ) → P j (at f k v j)
at_cases P f k v h o j = go (eqb j k) refl
  where
    go : (b : Bool) → eqb j k ≡ b → P j (pick b v (f j))
    go true e = let q = eqb-true j k e in rw q h
    go false e = o j (eqb-false j k e)

-- what is v at k, and f elsewhere
pub is_at : {A : Type 0} (f g : ℕ → A) (k : ℕ) (v : A) → g k ≡ v → ((m : ℕ) → (m ≡ k → ⊥) → g m ≡ f m) → (m : ℕ) → g m ≡ at f k v m
is_at f g k v h o = at_cases (λ m x. g m ≡ x) f k v h o

-- two functions that h cannot tell apart, changed alike
pub at_both : {A B : Type 0} (h : A → B) (f g : ℕ → A) (k : ℕ) (v : A) (j : ℕ) → h (f j) ≡ h (g j) → h (at f k v j) ≡ h (at g k v j)
at_both h f g k v j e = by2 (λ x y. h x ≡ h y) (eqb j k) v (f j) v (g j) (λ t. refl) (λ t. e)

-- ---- a function changed at a run

-- what holds of v at the run, and of f elsewhere
pub run_cases : {A : Type 0} (P : ℕ → A → Type 0) (f : ℕ → A) (s n : ℕ) (v : A) → ((j : ℕ) → s ≤ j → j < s + n → P j v) → ((j : ℕ) → Outside s (s + n) j → P j (f j)) → (j : ℕ) → P j (at_run f s n v j)
run_cases P f s n v h o j = go (leb s j) (ltb j (s + n)) refl refl
  where
    go : (a b : Bool) → leb s j ≡ a → ltb j (s + n) ≡ b → P j (pick (both a b) v (f j))
    go true true p q = h j (leb-true s j p) (ltb-true j (s + n) q)
    go true false p q = o j (λ x y. omega (arith, ltb-false j (s + n) q))
    go false b p q = o j (λ x y. omega (arith, leb-false s j p))

-- what is v at the run, and f elsewhere
pub is_at_run : {A : Type 0} (f g : ℕ → A) (s n : ℕ) (v : A) → ((m : ℕ) → s ≤ m → m < s + n → g m ≡ v) → ((m : ℕ) → Outside s (s + n) m → g m ≡ f m) → (m : ℕ) → g m ≡ at_run f s n v m
is_at_run f g s n v h o = run_cases (λ m x. g m ≡ x) f s n v h o

pub run_both : {A B : Type 0} (h : A → B) (f g : ℕ → A) (s n : ℕ) (v : A) (j : ℕ) → h (f j) ≡ h (g j) → h (at_run f s n v j) ≡ h (at_run g s n v j)
run_both h f g s n v j e = by2 (λ x y. h x ≡ h y) (within s n j) v (f j) v (g j) (λ t. refl) (λ t. e)

-- ---- the lowest number

pub lowest_is : (p : ℕ → Bool) (n k : ℕ) → k < n → p k ≡ true → ((m : ℕ) → m < k → p m ≡ false) → lowest p n ≡ k
unfolding lowest
lowest_is p zero k h y o = absurd (not-suc-le-zero h)
lowest_is p (suc n) zero h y o = rw y
lowest_is p (suc n) (suc k) h y o = rw (o zero (suc-le-suc zero-le)) (ap suc (lowest_is (λ k. p (suc k)) n k (le_of_suc-le-suc h) y (λ m l. o (suc m) (suc-le-suc l))))

pub lowest_none : (p : ℕ → Bool) (n : ℕ) → ((m : ℕ) → m < n → p m ≡ false) → lowest p n ≡ n
unfolding lowest
lowest_none p zero o = refl
lowest_none p (suc n) o = rw (o zero (suc-le-suc zero-le)) (ap suc (lowest_none (λ k. p (suc k)) n (λ m l. o (suc m) (suc-le-suc l))))

pub lowest_yes : (p : ℕ → Bool) (n : ℕ) → lowest p n < n → p (lowest p n) ≡ true
unfolding lowest
lowest_yes p zero h = absurd (not-suc-le-zero h)
lowest_yes p (suc n) h = go (p zero) refl (lowest_yes (λ k. p (suc k)) n) h
  where
    go : (b : Bool) → p zero ≡ b → (lowest (λ k. p (suc k)) n < n → p (suc (lowest (λ k. p (suc k)) n)) ≡ true) → pick b zero (suc (lowest (λ k. p (suc k)) n)) < suc n → p (pick b zero (suc (lowest (λ k. p (suc k)) n))) ≡ true
    go true e r h = e
    go false e r h = r (le_of_suc-le-suc h)

pub lowest_before : (p : ℕ → Bool) (n j : ℕ) → j < lowest p n → p j ≡ false
unfolding lowest
lowest_before p zero j h = absurd (not-suc-le-zero h)
lowest_before p (suc n) j h = go (p zero) refl j h (lowest_before (λ k. p (suc k)) n)
  where
    go : (b : Bool) → p zero ≡ b → (j : ℕ) → j < pick b zero (suc (lowest (λ k. p (suc k)) n)) → ((j : ℕ) → j < lowest (λ k. p (suc k)) n → p (suc j) ≡ false) → p j ≡ false
    go true q j h more = absurd (not-suc-le-zero h)
    go false q zero h more = q
    go false q (suc j) h more = more j (le_of_suc-le-suc h)

pub lowest_high : (p : ℕ → Bool) (n : ℕ) → lowest p n ≤ n
unfolding lowest
lowest_high p zero = zero-le
lowest_high p (suc n) = by (λ x. x ≤ suc n) (p zero) zero (suc (lowest (λ k. p (suc k)) n)) (λ e. zero-le) (λ e. suc-le-suc (lowest_high (λ k. p (suc k)) n))

-- ---- all of a run

pub all_yes : (p : ℕ → Bool) (k n : ℕ) → ((j : ℕ) → k ≤ j → j < k + n → p j ≡ true) → all_from p k n ≡ true
all_yes p k zero h = refl
all_yes p k (suc n) h = rw (h k (omega arith) (omega arith)) (all_yes p (suc k) n (λ j a b. h j (omega arith) (omega arith)))

pub all_at : (p : ℕ → Bool) (k n : ℕ) → all_from p k n ≡ true → (j : ℕ) → k ≤ j → j < k + n → p j ≡ true
all_at p k zero e j a b = absurd (omega arith)
all_at p k (suc n) e j a b = go (ℕ_discrete j k) (all_at p (suc k) n (both_right (p k) (all_from p (suc k) n) e) j)
  where
    go : Dec (j ≡ k) → (suc k ≤ j → j < suc k + n → p j ≡ true) → p j ≡ true
    go (yes q) more = rw q (both_left (p k) (all_from p (suc k) n) e)
    go (no d) more = more (omega arith) (omega arith)
