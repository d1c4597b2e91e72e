-- `bitmap_range::note_level` meets its contract. Assumes nothing.
use mathlib.Core.Path.{◌≡◌}
use native.Mathlib.Omega.{arith}
use Rattle.bitmap_range.proofs.Rows.{noted_one, noted_many}
use Rattle.bitmap_range.proofs.note_level.Goals as goal

pub returns-then-f-b : goal.returns-then-f-b
returns-then-f-b c =
    let p = c.requires in
    noted_many _ _ _ _ _ _ _ p.f_nonzero.0 c.if-f-b.true p.tree_len_bound.2 c.note.ensures c.note-then-f-b.ensures c.paint.ensures

pub returns-else-f-b : goal.returns-else-f-b
returns-else-f-b c =
    let p = c.requires in
    let a = c.args in
    let e : a.b ≡ a.f = omega (arith, c.if-f-b.false) in
    rw e (noted_one _ _ _ _ p.f_nonzero.0 c.note.ensures)
