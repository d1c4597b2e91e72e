-- How much memory to lend. `Full` is that of bitmap_tree: w words make a tree whose 15 w + 1 frames are a power of 16. Assumes nothing.
use Rattle.std.specs.Prelude.{◌≡◌, ℕ, ◌+◌, ◌*◌, ◌^◌, ◌≤◌, ◌<◌, Result, Ok, Err}
use Rattle.bitmap_tree.specs.Tree.{Full}
use Rattle.lending.specs.declared.Sizes.{Sizes}
use Rattle.lending.specs.declared.TooMany.{TooMany}

-- w words make a full tree that has so many frames or more, and no smaller power of 16, from 16 on, is that many
pub record Smallest (frames w : ℕ) : Type 0 where
  pub full : Full w
  pub enough : frames ≤ 15 * w + 1
  pub least : (d : ℕ) → 0 < d → frames ≤ 16 ^ d → 15 * w + 1 ≤ 16 ^ d

-- the sizes are those of so many machines, whose sets have so many slots each, and so many frames
pub record Lends (machines slots frames : ℕ) (s : Sizes) : Type 0 where
  pub table : s.table ≡ 8325
  pub zones : s.zones ≡ machines * (3 + 8 * slots)
  pub tree : Smallest frames s.tree
  pub owners : s.owners ≡ 15 * s.tree + 1
  pub words : s.words ≡ 512 * frames

-- the sizes, or the first number that is too large
abbrev pub AmountSays : ℕ → ℕ → ℕ → Result Sizes TooMany → Type 0
AmountSays machines slots frames (Ok s) = (machines ≤ 64) × (slots ≤ 32) × (frames ≤ 2 ^ 52) × Lends machines slots frames s
AmountSays machines slots frames (Err TooMany.Machines) = 64 < machines
AmountSays machines slots frames (Err TooMany.Slots) = (machines ≤ 64) × (32 < slots)
AmountSays machines slots frames (Err TooMany.Frames) = (machines ≤ 64) × (slots ≤ 32) × (2 ^ 52 < frames)
