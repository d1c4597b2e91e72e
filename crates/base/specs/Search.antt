-- What a search finds, upwards and downwards. `proofs/Search.antt` shows that each statement determines its answer. Assumes nothing.
use Rattle.std.specs.Prelude.{ℕ, ◌-◌, ◌≤◌, ◌<◌}

-- r is the first number from a up to b at which P fails, or b where there is none
pub record Stops (P : ℕ → Type 0) (a b r : ℕ) : Type 0 where
  pub low : a ≤ r
  pub high : r ≤ b
  pub before : (k : ℕ) → a ≤ k → k < r → P k
  pub fails : r < b → P r → ⊥

-- P holds from r up to b, and r is the lowest such number from a on
pub record Since (P : ℕ → Type 0) (a b r : ℕ) : Type 0 where
  pub low : a ≤ r
  pub high : r ≤ b
  pub after : (k : ℕ) → r ≤ k → k < b → P k
  pub fails : a < r → P (r - 1) → ⊥

-- P holds at every place (a, b), a below n and b below the width of a
abbrev pub Everywhere : (ℕ → ℕ → Type 0) → (ℕ → ℕ) → ℕ → Type 0
Everywhere P width n = (a b : ℕ) → a < n → b < width a → P a b

-- (a, b) is the first such place at which P fails, by a and then by b
pub record First (P : ℕ → ℕ → Type 0) (width : ℕ → ℕ) (n a b : ℕ) : Type 0 where
  pub row : a < n
  pub place : b < width a
  pub fails : P a b → ⊥
  pub rows_before : Everywhere P width a
  pub before : (k : ℕ) → k < b → P a k
