-- `contents::clean_until` meets its contract. Assumes nothing.
use native.Mathlib.Omega.{arith}
use Rattle.bitmap_tree.proofs.Fullness.{full_bound}
use Rattle.contents.proofs.clean_until.Goals as goal

pub is_clean-requires : goal.is_clean-requires
is_clean-requires c = let m = c.requires.0.bytes in let f = c.requires.1.few in let b = full_bound _ c.requires.0.full in (omega arith, omega arith, b.0)
