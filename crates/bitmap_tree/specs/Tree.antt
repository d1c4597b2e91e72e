-- The tree: which frames are free, and that the summaries agree with them. A tree is the list of its words. Node j is the word j if
-- there is one, and else the frame j - length t; its bit stands in its parent, the word (j - 1) / 16. Assumes nothing.
use Rattle.std.specs.Prelude.{◌≡◌, List, ℕ, ◌+◌, ◌-◌, ◌*◌, ◌/◌, ◌%◌, ◌^◌, ◌<◌, ◌≤◌, min, length, get_or}
use Rattle.base.specs.Ranges.{Outside}
use Rattle.bits16.specs.Bits.{bit}

-- the bit of node j, of 1 and more
unfoldable pub node_bit : List ℕ → ℕ → ℕ
node_bit t j = bit (get_or t ((j - 1) / 16) 0) ((j - 1) % 16)

-- how many frames there are
abbrev pub cap : List ℕ → ℕ
cap t = 15 * length t + 1

-- 1 if frame k is free, and 0 if it is taken
abbrev pub free : List ℕ → ℕ → ℕ
free t k = node_bit t (length t + k)

-- w words make a full tree: its frames are 16 to some power, and no more than 16 ^ 15, the largest such number below 2 ^ 64
pub record Full (w : ℕ) : Type 0 where
  pub depth : ℕ
  pub some : 0 < depth
  pub few : depth ≤ 15
  pub count : 15 * w + 1 ≡ 16 ^ depth

-- the bit of word n says whether the word has a set bit
abbrev pub Summarised : List ℕ → ℕ → Type 0
Summarised t n = node_bit t n ≡ min 1 (get_or t n 0)

-- each bit of word p says whether the word that it speaks for has a set bit
abbrev pub Honest : List ℕ → ℕ → Type 0
Honest t p = (i : ℕ) → i < 16 → Summarised t (16 * p + 1 + i)

-- the summaries agree: each word but the root is summarised
unfoldable pub Agree : List ℕ → Type 0
Agree t = (n : ℕ) → 0 < n → n < length t → Summarised t n

-- each word but the root and those from a to b is summarised
unfoldable pub AgreeBut : List ℕ → ℕ → ℕ → Type 0
AgreeBut t a b = (n : ℕ) → 0 < n → n < length t → Outside a (b + 1) n → Summarised t n
