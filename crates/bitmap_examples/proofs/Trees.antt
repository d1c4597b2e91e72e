-- The trees of the examples: no words, which are no tree; sixteen frames of which none is free; sixteen of which the first is; and 256
-- whose root says that one is free where none is. Assumes nothing.
use mathlib.Core.Path.{◌≡◌, refl, sym, ◌∙◌}
use mathlib.Core.List.{List, [], ◌∷◌}
use Prim.Native.Nat.{ℕ, zero, suc, ◌+◌, ◌-◌, ◌/◌, ◌%◌, ◌<◌}
use native.Mathlib.Decide.{dec_lt}
use native.Mathlib.Omega.{arith}
use lib.Dec.{lit<, lit≤}
use lib.ListN.{length, get_or, replicate}
use Rattle.base.specs.Ranges.{Outside}
use Rattle.base.proofs.Ranges.{zero_word}
use Rattle.bits16.specs.Bits.{bit}
use Rattle.bits16.proofs.Laws.{bit_above, bit_of_zero}
use Rattle.bitmap_tree.specs.Tree.{node_bit, free, Full, Agree, Summarised}
use Rattle.bitmap_tree.specs.Writes.{Changed}
use Rattle.bitmap_tree.proofs.Nodes.{parent_none}
use Rattle.bitmap_tree.proofs.Fullness.{full_bound}

-- no words
abbrev pub nothing : List ℕ
nothing = []

-- sixteen frames, all taken
abbrev pub taken : List ℕ
taken = 0 ∷ []

-- sixteen frames, of which the first is free
abbrev pub one : List ℕ
one = 1 ∷ []

-- 256 frames, all taken; the root says that one of the first sixteen is free
abbrev pub lying : List ℕ
lying = 1 ∷ replicate 16 0

-- no words are no full tree
pub not_full_lem : Full (length nothing) → ⊥
not_full_lem f = let b = full_bound 0 f in omega arith

-- one word is
pub full : Full 1
full = record { depth = 1; some = lit< tt; few = lit≤ tt; count = refl }

-- and seventeen are
pub full_lying : Full (length lying)
full_lying = record { depth = 2; some = lit< tt; few = lit≤ tt; count = refl }

-- a tree of one word has no summary
pub agree : (w : ℕ) → Agree (w ∷ [])
unfolding Agree
agree w n a b = omega arith

-- the root of the one that lies
pub lie : Summarised lying 1 → ⊥
unfolding node_bit
lie e = omega (arith, e)

pub lies : Agree lying → ⊥
unfolding Agree
lies a = lie (a 1 (lit< tt) (lit< tt))

-- no frame is free where all are taken
pub none_free : (k : ℕ) → free taken k ≡ 0
none_free k = parent_none taken (1 + k) (zero_word 1 ((1 + k - 1) / 16))

-- the first frame, where it is
pub first_free : free one 0 ≡ 1
unfolding node_bit
first_free = refl

-- there is one word
no_word : (n : ℕ) → 0 < n → get_or one n 0 ≡ 0
no_word zero l = omega arith
no_word (suc zero) l = refl
no_word (suc (suc n)) l = refl

-- nor behind the first where that one is free
pub one_free : (k : ℕ) → 0 < k → free one k ≡ 0
unfolding node_bit
one_free k l = go (dec_lt k 16)
  where
    go : Dec (k < 16) → bit (get_or one ((1 + k - 1) / 16) 0) ((1 + k - 1) % 16) ≡ 0
    go (yes h) =
        let q : (1 + k - 1) / 16 ≡ 0 = omega arith in
        let r : (1 + k - 1) % 16 ≡ k = omega arith in
        rw q (rw r (bit_above 1 1 k (lit< tt) l))
    go (no h) = rw (no_word ((1 + k - 1) / 16) (omega (arith, h))) (bit_of_zero ((1 + k - 1) % 16))

-- what is outside of the first frame is behind it
behind : (k : ℕ) → Outside 0 1 k → 0 < k
behind k o = go (dec_lt 0 k)
  where
    go : Dec (0 < k) → 0 < k
    go (yes l) = l
    go (no n) = absurd (o (omega arith) (omega (arith, n)))

-- the first frame, and no other, changes from the one tree to the other
pub was_taken : Changed one 0 1 0 taken
was_taken = record { inside = λ k l h. none_free k; others = λ k o. none_free k ∙ sym (one_free k (behind k o)); long = refl; agree = λ a. agree 0 }

pub was_freed : Changed taken 0 1 1 one
was_freed =
    record {
      inside = λ k l h. let q : k ≡ 0 = omega arith in rw q first_free;
      others = λ k o. one_free k (behind k o) ∙ sym (none_free k);
      long = refl;
      agree = λ a. agree 1;
    }
