-- The laws of bits written within one word, and of writes one after the other. Assumes nothing.
use mathlib.Core.Path.{◌≡◌, refl, sym, ap, ◌∙◌}
use mathlib.Core.List.{List}
use Prim.Native.Nat.{ℕ, zero, suc, ◌+◌, ◌-◌, ◌*◌, ◌/◌, ◌%◌, ◌≤◌, ◌<◌, min}
use native.Mathlib.Decide.{ℕ_discrete, dec_lt}
use native.Mathlib.Omega.{arith}
use lib.ListN.{length, get_or, set, length-set}
use lib.Seq.{get_or-set_same, get_or-set_other}
use Rattle.base.specs.Ranges.{Outside}
use Rattle.bits16.specs.Bits.{bit, Filled}
use Rattle.bits16.proofs.Laws.{all_zero, some_set}
use Rattle.bitmap_tree.specs.Tree.{node_bit}
use Rattle.bitmap_tree.specs.Writes.{Painted}
use Rattle.bitmap_tree.proofs.Nodes.{bit_in, some_min}

-- a word whose sixteen bits are all v
pub word_whole : (r v : ℕ) → r < 65536 → v < 2 → ((k : ℕ) → k < 16 → bit r k ≡ v) → min 1 r ≡ v
word_whole r zero f h is = let z : r ≡ 0 = all_zero 16 r f is in omega arith
word_whole r (suc zero) f h is = some_min r (some_set r 0 (is 0 (omega arith)))
word_whole r (suc (suc v)) f h is = absurd (omega arith)

-- the bits from node j up to node e written in their word
pub painted_word : (t : List ℕ) (j e v r : ℕ) → 0 < j → (j - 1) / 16 < length t → j < e → e ≤ 16 * ((j - 1) / 16) + 17 → v < 2
    → Filled (get_or t ((j - 1) / 16) 0) ((j - 1) % 16) (e - 1 - 16 * ((j - 1) / 16)) v r → Painted t j e v (set t ((j - 1) / 16) r)
painted_word t j e v r pos inb some most two f = record {
  long = length-set t ((j - 1) / 16) r;
  inside = λ k l h.
      let q : (k - 1) / 16 ≡ (j - 1) / 16 = omega arith in
      at k q ∙ f.inside ((k - 1) % 16) (omega arith) (omega arith);
  outside = λ k l o. outside k l o (ℕ_discrete ((k - 1) / 16) ((j - 1) / 16));
  words = λ n o. get_or-set_other t ((j - 1) / 16) n r 0 (λ q. o (omega arith) (omega arith));
  whole = λ n l h.
      let q : n ≡ (j - 1) / 16 = omega arith in
      rw (q, get_or-set_same t ((j - 1) / 16) r 0 inb) (word_whole r v f.fits two (λ k b. f.inside k (omega arith) (omega arith)));
}
  where
    at : (k : ℕ) → (k - 1) / 16 ≡ (j - 1) / 16 → node_bit (set t ((j - 1) / 16) r) k ≡ bit r ((k - 1) % 16)
    at k q = bit_in (set t ((j - 1) / 16) r) k ((j - 1) / 16) q ∙ ap (λ (x : ℕ). bit x ((k - 1) % 16)) (get_or-set_same t ((j - 1) / 16) r 0 inb)

    outside : (k : ℕ) → 0 < k → Outside j e k → Dec ((k - 1) / 16 ≡ (j - 1) / 16) → node_bit (set t ((j - 1) / 16) r) k ≡ node_bit t k
    outside k l o (no q) =
        bit_in (set t ((j - 1) / 16) r) k ((k - 1) / 16) refl
        ∙ ap (λ (x : ℕ). bit x ((k - 1) % 16)) (get_or-set_other t ((j - 1) / 16) ((k - 1) / 16) r 0 q) ∙ sym (bit_in t k ((k - 1) / 16) refl)
    outside k l o (yes q) =
        at k q ∙ f.outside ((k - 1) % 16) (λ x y. o (omega arith) (omega arith)) ∙ sym (bit_in t k ((j - 1) / 16) q)

-- one bit written in its word
pub painted_one : (t : List ℕ) (j v r : ℕ) → 0 < j → (j - 1) / 16 < length t → v < 2 → Filled (get_or t ((j - 1) / 16) 0) ((j - 1) % 16) ((j - 1) % 16 + 1) v r
    → Painted t j (j + 1) v (set t ((j - 1) / 16) r)
painted_one t j v r pos inb two f =
    let e : (j - 1) % 16 + 1 ≡ j + 1 - 1 - 16 * ((j - 1) / 16) = omega arith in
    painted_word t j (j + 1) v r pos inb (omega arith) (omega arith) two (rw e at f)

-- the summary of a word that was just written
pub summary_back : (t : List ℕ) (p r s : ℕ) → p < length t → s ≡ min 1 r → s ≡ min 1 (get_or (set t p r) p 0)
summary_back t p r s l e = e ∙ ap (λ (x : ℕ). min 1 x) (sym (get_or-set_same t p r 0 l))

-- a write up to the first bit of word p, and one from there on
pub painted_join : (t t' t'' : List ℕ) (a p c v : ℕ) → 0 < a → a ≤ 16 * p + 1 → 16 * p + 1 ≤ c
    → Painted t a (16 * p + 1) v t' → Painted t' (16 * p + 1) c v t'' → Painted t a c v t''
painted_join t t' t'' a p c v pos l h x y = record {
  long = y.long ∙ x.long;
  inside = λ k g i. inside k g i (dec_lt k (16 * p + 1));
  outside = λ k g o. y.outside k g (λ u w. o (omega arith) w) ∙ x.outside k g (λ u w. o u (omega arith));
  words = λ n o. y.words n (λ u w. o (omega arith) w) ∙ x.words n (λ u w. o u (omega arith));
  whole = λ n g i. whole n g i (dec_lt n p);
}
  where
    inside : (k : ℕ) → a ≤ k → k < c → Dec (k < 16 * p + 1) → node_bit t'' k ≡ v
    inside k g i (yes s) = y.outside k (omega arith) (λ u w. omega arith) ∙ x.inside k g s
    inside k g i (no s) = y.inside k (omega arith) i

    whole : (n : ℕ) → a ≤ 16 * n + 1 → 16 * n + 17 ≤ c → Dec (n < p) → min 1 (get_or t'' n 0) ≡ v
    whole n g i (yes s) = ap (λ (z : ℕ). min 1 z) (y.words n (λ u w. omega arith)) ∙ x.whole n g (omega arith)
    whole n g i (no s) = y.whole n (omega arith) i
