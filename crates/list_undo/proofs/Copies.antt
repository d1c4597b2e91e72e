-- One list becomes a copy of another, value by value. Assumes nothing.
use mathlib.Core.Path.{◌≡◌, ◌∙◌}
use mathlib.Core.List.{List}
use Prim.Native.Nat.{ℕ, ◌+◌, ◌≤◌, ◌<◌}
use native.Mathlib.Decide.{ℕ_discrete}
use native.Mathlib.Omega.{arith}
use lib.ListN.{length, get_or, set}
use Rattle.std.proofs.lemmas.List.{same_lists, get_or-set_same, get_or-set_other, get_or_default}
use Rattle.std.specs.List.{SameBelow}

-- before the first
pub copied_none : {X : Type 0} (xs ys : List X) → SameBelow xs ys 0
copied_none xs ys k d l = absurd (omega arith)

-- one more
pub copied_more : {X : Type 0} (xs ys : List X) (i : ℕ) (v : X) → i < length ys → i < length xs → v ≡ get_or xs i v
    → SameBelow xs ys i → SameBelow xs (set ys i v) (i + 1)
copied_more {X} xs ys i v a b e h k d l = go (ℕ_discrete k i)
  where
    go : Dec (k ≡ i) → get_or (set ys i v) k d ≡ get_or xs k d
    go (yes q) = rw q (get_or-set_same ys i v d a ∙ e ∙ get_or_default xs i v d b)
    go (no q) = get_or-set_other ys i k v d q ∙ h k d (omega (arith, q))

-- all
pub copied_all : {X : Type 0} (xs ys : List X) (n : ℕ) → length ys ≡ length xs → length xs ≤ n → SameBelow xs ys n → ys ≡ xs
copied_all xs ys n e f h = same_lists ys xs e (λ k d l. h k d (omega arith))
