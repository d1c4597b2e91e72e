-- `bitmap_range::change` meets its contract. Assumes nothing.
use native.Mathlib.Omega.{arith}
use Rattle.bitmap_range.proofs.Mending.{frames_between, changed}
use Rattle.bitmap_range.proofs.change.Goals as goal

pub mend-requires : goal.mend-requires
mend-requires c =
    let p = c.requires in
    let l = c.paint.ensures.long in
    record { lo_le_hi = (omega arith, omega arith); tree_len_bound = (omega arith, p.tree_nonzero.2, frames_between _ _ _ _ _ p.tree_nonzero.0 p.a_lt_b.0 p.a_lt_b.1 c.paint.ensures) }

pub returns : goal.returns
returns c = let p = c.requires in changed _ _ _ _ _ p.tree_nonzero.0 p.a_lt_b.0 p.a_lt_b.1 c.paint.ensures _ c.mend.ensures
