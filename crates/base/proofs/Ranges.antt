-- The laws of lists that differ in a range alone. Assumes nothing.
use mathlib.Core.Path.{◌≡◌, refl, ◌∙◌}
use mathlib.Core.List.{List}
use Prim.Native.Nat.{ℕ, zero, suc, ◌+◌, ◌≤◌}
use lib.ListN.{get_or, set, replicate, length-set}
use lib.Seq.{get_or-set_other}
use native.Mathlib.Omega.{arith}
use Rattle.base.specs.Ranges.{Only}

-- a word of a list of zeros, and what is behind them
pub zero_word : (w n : ℕ) → get_or {A = ℕ} (replicate w 0) n 0 ≡ 0
zero_word zero n = refl
zero_word (suc w) zero = refl
zero_word (suc w) (suc n) = zero_word w n

-- no change, one word, and one change after another within one range
pub only_none : (t : List ℕ) (a b : ℕ) → Only t a b t
only_none t a b = record { long = refl; others = λ k o. refl }

pub set_only : (t : List ℕ) (k v : ℕ) → Only t k (k + 1) (set t k v)
set_only t k v = record { long = simp length-set; others = λ j o. get_or-set_other t k j v 0 (λ e. o (omega arith) (omega arith)) }

pub only_then : {t t' t'' : List ℕ} {a b a' b' : ℕ} (x y : ℕ) → Only t a b t' → Only t' a' b' t'' → x ≤ a → b ≤ y → x ≤ a' → b' ≤ y → Only t x y t''
only_then x y o p l l' h h' =
    record { long = p.long ∙ o.long; others = λ k q. p.others k (λ u w. q (omega arith) (omega arith)) ∙ o.others k (λ u w. q (omega arith) (omega arith)) }
