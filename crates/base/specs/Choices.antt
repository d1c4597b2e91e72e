-- Choices by a test, functions changed at some numbers, and the lowest number that passes a test. Assumes nothing.
use Rattle.std.specs.Prelude.{Bool, true, false, ℕ, zero, suc, ◌+◌, ltb, leb, eqb}

-- a where the test passes, else b
abbrev pub pick : {A : Type 0} → Bool → A → A → A
pick true a b = a
pick false a b = b

-- both tests pass
abbrev pub both : Bool → Bool → Bool
both true b = b
both false b = false

-- f, but v at k
abbrev pub at : {A : Type 0} → (ℕ → A) → ℕ → A → ℕ → A
at f k v m = pick (eqb m k) v (f m)

-- m is one of the n numbers from s on
abbrev pub within : ℕ → ℕ → ℕ → Bool
within s n m = both (leb s m) (ltb m (s + n))

-- f, but v at the n numbers from s on
abbrev pub at_run : {A : Type 0} → (ℕ → A) → ℕ → ℕ → A → ℕ → A
at_run f s n v m = pick (within s n m) v (f m)

-- the lowest number below n that passes the test, or n
unfoldable pub lowest : (ℕ → Bool) → ℕ → ℕ
lowest p zero = zero
lowest p (suc n) = pick (p zero) zero (suc (lowest (λ k. p (suc k)) n))

-- the n numbers from k on all pass the test
abbrev pub all_from : (ℕ → Bool) → ℕ → ℕ → Bool
all_from p k zero = true
all_from p k (suc n) = both (p k) (all_from p (suc k) n)
