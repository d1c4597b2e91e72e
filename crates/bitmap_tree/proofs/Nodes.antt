-- The laws of a node's bit. Assumes nothing.
use mathlib.Core.Path.{◌≡◌, refl, ap, ◌∙◌}
use mathlib.Core.List.{List}
use Prim.Native.Nat.{ℕ, ◌+◌, ◌-◌, ◌*◌, ◌/◌, ◌%◌, ◌<◌, min}
use native.Mathlib.Omega.{arith}
use lib.ListN.{get_or}
use Rattle.bits16.specs.Bits.{bit}
use Rattle.bits16.proofs.Laws.{some_set, bit_of_zero}
use Rattle.bitmap_tree.specs.Tree.{node_bit}

-- a node's bit, as its parent's word has it
pub bit_of_lem : (t : List ℕ) (j : ℕ) → node_bit t j ≡ bit (get_or t ((j - 1) / 16) 0) ((j - 1) % 16)
unfolding node_bit
bit_of_lem t j = refl

-- the bit of the child i of word n
pub child_bit : (t : List ℕ) (n i : ℕ) → i < 16 → node_bit t (16 * n + 1 + i) ≡ bit (get_or t n 0) i
unfolding node_bit
child_bit t n i h =
    let p : (16 * n + 1 + i - 1) / 16 ≡ n = omega arith in
    let q : (16 * n + 1 + i - 1) % 16 ≡ i = omega arith in
    rw (p, q)

-- the bit of a node whose parent is known
pub bit_in : (t : List ℕ) (j p : ℕ) → (j - 1) / 16 ≡ p → node_bit t j ≡ bit (get_or t p 0) ((j - 1) % 16)
bit_in t j p e = bit_of_lem t j ∙ ap (λ (x : ℕ). bit (get_or t x 0) ((j - 1) % 16)) e

-- a bit is 0 or 1
pub bit_lt : (t : List ℕ) (j : ℕ) → node_bit t j < 2
unfolding node_bit
bit_lt t j = omega arith

-- a bit that is not 1 is 0
pub bit_clear : (t : List ℕ) (j : ℕ) → (node_bit t j ≡ 1 → ⊥) → node_bit t j ≡ 0
bit_clear t j n = let l = bit_lt t j in omega (arith, n)

-- a set bit stands in a word that is not 0
pub parent_some : (t : List ℕ) (j : ℕ) → node_bit t j ≡ 1 → get_or t ((j - 1) / 16) 0 ≡ 0 → ⊥
unfolding node_bit
parent_some t j h e = some_set (get_or t ((j - 1) / 16) 0) ((j - 1) % 16) h e

-- no bit of a word that is 0 is set
pub parent_none : (t : List ℕ) (j : ℕ) → get_or t ((j - 1) / 16) 0 ≡ 0 → node_bit t j ≡ 0
unfolding node_bit
parent_none t j e = ap (λ (x : ℕ). bit x ((j - 1) % 16)) e ∙ bit_of_zero ((j - 1) % 16)

-- the summary of a word that is not 0
pub some_min : (x : ℕ) → (x ≡ 0 → ⊥) → min 1 x ≡ 1
some_min x h = omega (arith, h)
