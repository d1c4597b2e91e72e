-- How a tree changes, and what a word of summaries is to be. Assumes nothing.
use Rattle.std.specs.Prelude.{◌≡◌, List, ℕ, ◌+◌, ◌-◌, ◌*◌, ◌/◌, ◌<◌, ◌≤◌, min, length, get_or}
use Rattle.base.specs.Ranges.{Outside}
use Rattle.bits16.specs.Bits.{bit}
use Rattle.bitmap_tree.specs.Tree.{node_bit, free, Agree, AgreeBut}

-- r is the word that has the summaries of the sixteen words that word p speaks for
pub record Summary (t : List ℕ) (p r : ℕ) : Type 0 where
  pub fits : r < 65536
  pub bits : (i : ℕ) → i < 16 → bit r i ≡ min 1 (get_or t (16 * p + 1 + i) 0)

-- t' is t with v as the bit of each node from a up to b; a word that has none of them is as it was, and one that has no other is all v
pub record Painted (t : List ℕ) (a b v : ℕ) (t' : List ℕ) : Type 0 where
  pub long : length t' ≡ length t
  pub inside : (k : ℕ) → a ≤ k → k < b → node_bit t' k ≡ v
  pub outside : (k : ℕ) → 0 < k → Outside a b k → node_bit t' k ≡ node_bit t k
  pub words : (n : ℕ) → ((a - 1) / 16 ≤ n → 16 * n + 1 < b → ⊥) → get_or t' n 0 ≡ get_or t n 0
  pub whole : (n : ℕ) → a ≤ 16 * n + 1 → 16 * n + 17 ≤ b → min 1 (get_or t' n 0) ≡ v

-- t' is t with v as the bit of node j, and with the summaries above it mended: no other frame changed, and where only the summary of j was
-- not right, and v is what it should be, the summaries agree
pub record Climbed (t : List ℕ) (j v : ℕ) (t' : List ℕ) : Type 0 where
  pub long : length t' ≡ length t
  pub here : length t ≤ j → node_bit t' j ≡ v
  pub there : (k : ℕ) → length t ≤ k → (k ≡ j → ⊥) → node_bit t' k ≡ node_bit t k
  pub agree : AgreeBut t j j → (j < length t → min 1 (get_or t j 0) ≡ v) → Agree t'

-- the frames from a up to b are v in t'; no other frame changed, and summaries that agreed still agree
pub record Changed (t : List ℕ) (a b v : ℕ) (t' : List ℕ) : Type 0 where
  pub inside : (k : ℕ) → a ≤ k → k < b → free t' k ≡ v
  pub others : (k : ℕ) → Outside a b k → free t' k ≡ free t k
  pub long : length t' ≡ length t
  pub agree : Agree t → Agree t'
