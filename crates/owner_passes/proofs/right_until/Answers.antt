-- `owner_passes::right_until` meets its contract. Assumes nothing.
use native.Mathlib.Omega.{arith}
use Rattle.bitmap_tree.proofs.Nodes.{bit_lt}
use Rattle.bitmap_tree.proofs.Fullness.{full_bound}
use Rattle.owner_passes.proofs.right_until.Goals as goal

pub read-bit-requires : goal.read-bit-requires
read-bit-requires c = let e = c.requires.bytes in let b = full_bound _ c.requires.full in (omega arith, omega arith)

pub in_order-requires : goal.in_order-requires
in_order-requires c = let e = c.read-bit.ensures in rw e (bit_lt _ _)
