-- `bitmap_runs::set_since` meets its contract. The invariant of its loop is `Backing`; the measure is the node. Assumes nothing.
use mathlib.Core.Path.{◌≡◌}
use native.Mathlib.Omega.{arith}
use Rattle.bitmap_runs.proofs.Windows.{back_step, back_stop, back_full}
use Rattle.bitmap_runs.proofs.set_since.Goals as goal

pub returns-then-i-gt0 : goal.returns-then-i-gt0
returns-then-i-gt0 c =
    let p = c.requires in
    let l = c.loop-e in
    rw c.max.ensures (back_stop _ _ _ l.e _ p.0 c.loop-e-test.true l.invariant c.set_since-i.ensures p.1 c.if-i-gt0.true)

pub loop-e-preserved : goal.loop-e-preserved
loop-e-preserved c =
    let p = c.requires in
    let l = c.loop-e in
    let z : c.set_since-i.result ≡ 0 = omega (arith, c.if-i-gt0.false) in
    let step = back_step _ _ _ l.e _ p.0 c.loop-e-test.true l.invariant c.set_since-i.ensures in
    back_full _ _ _ _ _ (omega arith) (rw z at step) c.full_since.ensures
