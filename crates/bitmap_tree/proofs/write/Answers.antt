-- `bitmap_tree::write` meets its contract. Assumes nothing.
use Rattle.bitmap_tree.proofs.Writes.{painted_word}
use native.Mathlib.Omega.{arith}
use Rattle.bitmap_tree.proofs.write.Goals as goal

pub returns-then-j-e : goal.returns-then-j-e
returns-then-j-e c =
    let a = c.args in
    let p = c.requires in
    painted_word a.tree.now a.j a.e a.v _ p.j_nonzero.0 (omega arith) c.if-j-e.true p.j_nonzero.2 p.e_bound.2 c.fill.ensures
