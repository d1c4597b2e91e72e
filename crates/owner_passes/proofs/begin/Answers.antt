-- `owner_passes::begin` meets its contract. Assumes nothing.
use native.Mathlib.Omega.{arith}
use Rattle.bitmap_tree.proofs.Fullness.{full_bound}
use Rattle.bitmap_allocator.proofs.Answers.{wiped}
use Rattle.owner_passes.proofs.Beginning.{change_none, begun}
use Rattle.owner_passes.proofs.begin.Goals as goal

pub change-requires : goal.change-requires
change-requires c = let b = full_bound _ c.requires.0.full in let l = c.flood.ensures.long in record { a_lt_b = (c.if-n-gt0.true, omega arith); tree_nonzero = (omega arith, omega arith, omega arith) }

pub returns-then-n-gt0 : goal.returns-then-n-gt0
returns-then-n-gt0 c = begun _ _ _ _ c.requires.0 (wiped _ _ c.requires.0.full c.flood.ensures) c.fill.ensures _ _ c.change.ensures

pub returns-else-n-gt0 : goal.returns-else-n-gt0
returns-else-n-gt0 c = begun _ _ _ _ c.requires.0 (wiped _ _ c.requires.0.full c.flood.ensures) c.fill.ensures _ _ (change_none _ _ _ _ (omega arith))
