-- The bits of a word, lowest first. Assumes nothing.
use Rattle.std.specs.Prelude.{◌≡◌, ℕ, ◌+◌, ◌/◌, ◌%◌, ◌^◌, ◌<◌, ◌≤◌}
use Rattle.base.specs.Search.{Stops, Since}
use Rattle.base.specs.Ranges.{Outside}

-- the bit i of w
abbrev pub bit : ℕ → ℕ → ℕ
bit w i = w / 2 ^ i % 2

-- r is a word: w with v as each of its bits from i up to e
pub record Filled (w i e v r : ℕ) : Type 0 where
  pub fits : r < 65536
  pub inside : (k : ℕ) → i ≤ k → k < e → bit r k ≡ v
  pub outside : (k : ℕ) → Outside i e k → bit r k ≡ bit w k

-- r is w with v as its bit i, and no bit above that is set
pub record Appended (w i v r : ℕ) : Type 0 where
  pub fits : r < 2 ^ (i + 1)
  pub here : bit r i ≡ v
  pub below : (k : ℕ) → k < i → bit r k ≡ bit w k

-- r is the place of the lowest set bit of w at i or above, or 16
abbrev pub Lowest : ℕ → ℕ → ℕ → Type 0
Lowest w i r = Stops (λ (k : ℕ). bit w k ≡ 0) i 16 r

-- the bits of w from r up to e are set, and r is the lowest such place
abbrev pub SetSince : ℕ → ℕ → ℕ → Type 0
SetSince w e r = Since (λ (k : ℕ). bit w k ≡ 1) 0 e r
