-- Runs of set bits. Assumes nothing.
use Rattle.std.specs.Prelude.{◌≡◌, ℕ, ◌+◌, ◌%◌, ◌^◌, ◌<◌, ◌≤◌}
use Rattle.bits16.specs.Bits.{bit}

-- the n bits of x from place i on are set
abbrev pub SetRun : ℕ → ℕ → ℕ → Type 0
SetRun x n i = (j : ℕ) → i ≤ j → j < i + n → bit x j ≡ 1

-- the set bits of r are the places of x from which on n bits are set
pub record RunsOf (x n r : ℕ) : Type 0 where
  pub only : (i : ℕ) → bit r i ≡ 1 → SetRun x n i
  pub all : (i : ℕ) → SetRun x n i → bit r i ≡ 1

-- the set bits of a word r are the places that are multiples of 2 ^ a
pub record Multiples (a r : ℕ) : Type 0 where
  pub only : (i : ℕ) → i < 16 → bit r i ≡ 1 → i % 2 ^ a ≡ 0
  pub all : (i : ℕ) → i < 16 → i % 2 ^ a ≡ 0 → bit r i ≡ 1

-- the set bits of a word r are those of the given places from which on n bits of x are set
pub record Starts (x n places r : ℕ) : Type 0 where
  pub place : (i : ℕ) → i < 16 → bit r i ≡ 1 → bit places i ≡ 1
  pub only : (i : ℕ) → i < 16 → bit r i ≡ 1 → SetRun x n i
  pub all : (i : ℕ) → i < 16 → bit places i ≡ 1 → SetRun x n i → bit r i ≡ 1
