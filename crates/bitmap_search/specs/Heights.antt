-- How far nodes stand above the frames, and what a descent reaches. No level is named: a height is a number like any other.
-- Assumes nothing.
use Rattle.std.specs.Prelude.{◌≡◌, List, ℕ, zero, suc, ◌+◌, ◌-◌, ◌*◌, ◌/◌, ◌^◌, ◌<◌, ◌≤◌, length, get_or}
use Rattle.bitmap_tree.specs.Tree.{node_bit, Agree}

-- the parent of the parent .. of node m, h times
unfoldable pub up : ℕ → ℕ → ℕ
up zero m = m
up (suc h) m = (up h m - 1) / 16

-- node n stands h above the frames of a tree of w words; `first` is the first node as high as n
pub record Height (w n h : ℕ) : Type 0 where
  pub first : ℕ
  pub depth : ℕ
  pub count : 15 * first + 1 ≡ 16 ^ depth
  pub whole : 15 * w + 1 ≡ 16 ^ (depth + h)
  pub low : first ≤ n
  pub high : n ≤ 16 * first

-- something is free under node n, by what its bit says, or under the root, by its word
pub record Some (t : List ℕ) (n : ℕ) : Type 0 where
  pub set : 0 < n → node_bit t n ≡ 1
  pub root : n ≡ 0 → get_or t 0 0 ≡ 0 → ⊥

-- r is the node of a free frame; of those under n or under a node behind it of n's height it is the lowest, where the summaries agree
pub record Under (t : List ℕ) (n r : ℕ) : Type 0 where
  pub low : length t ≤ r
  pub high : r ≤ 16 * length t
  pub set : node_bit t r ≡ 1
  pub from : (h : ℕ) → Height (length t) n h → n ≤ up h r
  pub first : (h : ℕ) → Height (length t) n h → Agree t → (m : ℕ) → length t ≤ m → m ≤ 16 * length t → node_bit t m ≡ 1 → n ≤ up h m → r ≤ m
