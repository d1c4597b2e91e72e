-- `bitmap_range::mend` meets its contract. The invariant of its loop is `Mending`; the measure is the last word of the row. Assumes nothing.
use native.Mathlib.Omega.{arith}
use Rattle.bitmap_range.proofs.Mending.{between_less, mend_step}
use Rattle.bitmap_range.proofs.mend.Goals as goal

pub note_level-requires : goal.note_level-requires
note_level-requires c =
    let p = c.requires in
    let l = c.loop-a in
    let e = c.max-f.ensures in
    let w = l.invariant.within in
    let g = l.invariant.long in
    record { f_nonzero = (omega arith, omega arith, omega arith); tree_len_bound = (omega arith, p.tree_len_bound.1, between_less _ l.a _ l.b _ (omega arith) l.invariant.between) }

pub loop-a-preserved : goal.loop-a-preserved
loop-a-preserved c =
    let l = c.loop-a in
    mend_step _ _ _ _ _ l.a l.b _ _ c.max-f.ensures (omega arith) l.invariant c.note_level.ensures
