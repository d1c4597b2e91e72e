-- `bits16::runs_of` meets its contract. The invariant of its loop: m has the starts of the runs of k. The measure is what is left of n. Assumes nothing.
use native.Mathlib.Omega.{arith}
use Rattle.bits16.proofs.Doubling.{runs_more}
use Rattle.bits16.proofs.runs_of.Goals as goal

pub loop-k-preserved : goal.loop-k-preserved
loop-k-preserved c =
    let e = c.min-d.ensures in
    let l = c.loop-k in
    (omega arith, omega arith, runs_more _ l.k _ l.m (omega arith) l.invariant.2)
