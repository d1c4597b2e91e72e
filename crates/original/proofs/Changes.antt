-- Tests that say the same, and what a test says of functions that differ at one number, or at a run of numbers. Assumes nothing.
use mathlib.Core.Path.{◌≡◌, refl, sym, ap, fun_ext}
use mathlib.Core.Bool.{Bool, true, false}
use Prim.Native.Nat.{ℕ, ◌+◌, ◌≤◌, ◌<◌}
use native.Mathlib.Omega.{arith}
use Rattle.base.specs.Ranges.{Outside}
use Rattle.base.specs.Choices.{at, at_run}
use Rattle.base.proofs.Choices.{is_at, is_at_run}

-- two tests each of which passes where the other does are the same
pub same_tests : (a b : Bool) → (a ≡ true → b ≡ true) → (b ≡ true → a ≡ true) → a ≡ b
same_tests true b p q = sym (p refl)
same_tests false true p q = q refl
same_tests false false p q = refl

module _ {A : Type 0} (p : A → Bool) (f g : ℕ → A) where
  -- g is v at k, and f elsewhere
  pub told_at : (k : ℕ) (v : A) → ((m : ℕ) → k ≤ m → m < k + 1 → g m ≡ v) → ((m : ℕ) → Outside k (k + 1) m → g m ≡ f m) → (λ m. p (g m)) ≡ at (λ m. p (f m)) k (p v)
  told_at k v h o = fun_ext (is_at (λ m. p (f m)) (λ m. p (g m)) k (p v) (ap p (h k (omega arith) (omega arith))) (λ m d. ap p (o m (λ x y. d (omega arith)))))

  -- g is v at the n numbers from k on, and f elsewhere
  pub told_run : (k n : ℕ) (v : A) → ((m : ℕ) → k ≤ m → m < k + n → g m ≡ v) → ((m : ℕ) → Outside k (k + n) m → g m ≡ f m) → (λ m. p (g m)) ≡ at_run (λ m. p (f m)) k n (p v)
  told_run k n v h o = fun_ext (is_at_run (λ m. p (f m)) (λ m. p (g m)) k n (p v) (λ m x y. ap p (h m x y)) (λ m d. ap p (o m d)))
