-- `bitmap_tree::climb` meets its contract. The invariant of its loop is `Climbing`; the measure is the node, since a parent is before its child. Assumes nothing.
use mathlib.Core.Path.{sym, ◌∙◌}
use Prim.Native.Nat.{◌-◌, ◌/◌}
use native.Mathlib.Omega.{arith}
use Rattle.bitmap_tree.proofs.Writes.{painted_one, summary_back}
use Rattle.bitmap_tree.proofs.Ascent.{climb_start, climb_step, climb_stop, climb_done}
use Rattle.bitmap_tree.proofs.climb.Goals as goal

pub loop-n-init : goal.loop-n-init
loop-n-init c = climb_start _ _ _ c.requires.3

pub returns-then-was-is : goal.returns-then-was-is
returns-then-was-is c =
    let l = c.loop-n in
    let o = l.invariant.top in
    let g = l.invariant.long in
    climb_stop _ l.tree _ _ _ l.n l.u c.requires.1 c.loop-n-test.true l.invariant
    (painted_one l.tree l.n l.u c.put-new.result c.loop-n-test.true (omega arith) l.invariant.two c.put-new.ensures)
    (sym c.some-was.ensures ∙ c.if-was-is.true ∙ summary_back l.tree ((l.n - 1) / 16) c.put-new.result c.some-is.result (omega arith) c.some-is.ensures)

pub loop-n-preserved : goal.loop-n-preserved
loop-n-preserved c =
    let l = c.loop-n in
    let o = l.invariant.top in
    let g = l.invariant.long in
    climb_step _ l.tree _ _ _ l.n l.u c.requires.1 c.loop-n-test.true l.invariant
    (painted_one l.tree l.n l.u c.put-new.result c.loop-n-test.true (omega arith) l.invariant.two c.put-new.ensures)
    _ (summary_back l.tree ((l.n - 1) / 16) c.put-new.result c.some-is.result (omega arith) c.some-is.ensures)

pub returns : goal.returns
returns c =
    let l = c.loop-n in
    climb_done _ _ _ _ l.n l.u l.invariant (let p = c.requires in omega arith) (λ r q. absurd (omega arith))
