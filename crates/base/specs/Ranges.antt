-- Ranges of numbers, counts over them, and lists that differ in a range alone. Assumes nothing.
use Rattle.std.specs.Prelude.{◌≡◌, List, ℕ, zero, suc, ◌+◌, ◌≤◌, ◌<◌, length, get_or}

-- k is none of the numbers from a up to b
abbrev pub Outside : ℕ → ℕ → ℕ → Type 0
Outside a b k = a ≤ k → k < b → ⊥

-- the sum of f over the numbers below n: where f is 0 or 1 everywhere, at how many of them it is 1
unfoldable pub how_many : (ℕ → ℕ) → ℕ → ℕ
how_many f zero = 0
how_many f (suc n) = how_many f n + f n

-- t' differs from t at none but the numbers from a up to b
pub record Only (t : List ℕ) (a b : ℕ) (t' : List ℕ) : Type 0 where
  pub long : length t' ≡ length t
  pub others : (k : ℕ) → Outside a b k → get_or t' k 0 ≡ get_or t k 0

-- the words from p up to q are 0, and no other changed
pub record Emptied (w : List ℕ) (p q : ℕ) (w' : List ℕ) : Type 0 where
  pub long : length w' ≡ length w
  pub inside : (j : ℕ) → p ≤ j → j < q → get_or w' j 0 ≡ 0
  pub outside : (j : ℕ) → Outside p q j → get_or w' j 0 ≡ get_or w j 0
