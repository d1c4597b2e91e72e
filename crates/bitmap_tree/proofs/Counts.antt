-- The free frames counted a word at a time. Assumes nothing.
use mathlib.Core.Path.{◌≡◌, sym, ap, ◌∙◌}
use mathlib.Core.List.{List}
use Prim.Native.Nat.{ℕ, ◌+◌, ◌-◌, ◌*◌, ◌/◌, ◌≤◌, ◌<◌}
use native.Mathlib.Omega.{arith}
use lib.ListN.{length, get_or}
use Rattle.base.specs.Ranges.{how_many}
use Rattle.base.proofs.Counts.{many_none, many_add, many_same, many_le}
use Rattle.bits16.specs.Bits.{bit}
use Rattle.bitmap_tree.specs.Tree.{node_bit, free, cap, Full}
use Rattle.bitmap_tree.proofs.Nodes.{child_bit, bit_lt}
use Rattle.bitmap_tree.proofs.Fullness.{full_whole}

-- no more frames are free than there are
pub free_le : (t : List ℕ) (n : ℕ) → how_many (free t) n ≤ n
free_le t n = many_le (free t) n (λ k. bit_lt t (length t + k))

-- the frames of one word more, where the frames begin at the first bit of a word
pub count_word : (t : List ℕ) (p m : ℕ) → length t + 16 * m ≡ 16 * p + 1 → how_many (free t) (16 * m + 16) ≡ how_many (free t) (16 * m) + how_many (bit (get_or t p 0)) 16
count_word t p m e =
    many_add (free t) (16 * m) 16
    ∙ ap (λ (x : ℕ). how_many (free t) (16 * m) + x)
    (many_same (λ k. free t (16 * m + k)) (bit (get_or t p 0)) 16
    (λ k h. ap (node_bit t) (let q : length t + (16 * m + k) ≡ 16 * p + 1 + k = omega arith in q) ∙ child_bit t p k h))

-- a word has no more than sixteen frames
pub word_le : (w : ℕ) → how_many (bit w) 16 ≤ 16
word_le w = many_le (bit w) 16 (λ k. omega arith)

-- the words up to word p are counted
pub record Counting (t : List ℕ) (p total : ℕ) : Type 0 where
  pub words : ℕ
  pub at : length t + 16 * words ≡ 16 * p + 1
  pub high : p ≤ length t
  pub is : total ≡ how_many (free t) (16 * words)

pub count_start : (t : List ℕ) → Full (length t) → Counting t ((length t - 1) / 16) 0
count_start t f =
    let w = full_whole (length t) f in
    record { words = 0; at = omega arith; high = omega arith; is = sym (many_none (free t)) }

-- the count stays small
pub count_small : (t : List ℕ) (p total : ℕ) → Counting t p total → total ≤ 16 * length t
count_small t p total c = let b = free_le t (16 * c.words) in let a = c.at in let i = c.is in let h = c.high in omega arith

pub count_step : (t : List ℕ) (p total : ℕ) → p < length t → Counting t p total → Counting t (p + 1) (total + how_many (bit (get_or t p 0)) 16)
count_step t p total l c =
    let a = c.at in
    let e : 16 * (c.words + 1) ≡ 16 * c.words + 16 = omega arith in
    record {
      words = c.words + 1;
      at = omega arith;
      high = omega arith;
      is = ap (λ (x : ℕ). x + how_many (bit (get_or t p 0)) 16) c.is ∙ sym (count_word t p c.words a) ∙ ap (how_many (free t)) (sym e);
    }

pub count_done : (t : List ℕ) (p total : ℕ) → length t ≤ p → Counting t p total → total ≡ how_many (free t) (cap t)
count_done t p total l c =
    let a = c.at in
    let h = c.high in
    c.is ∙ ap (how_many (free t)) (let e : 16 * c.words ≡ cap t = omega arith in e)
