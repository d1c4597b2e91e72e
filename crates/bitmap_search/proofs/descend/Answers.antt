-- `bitmap_search::descend` meets its contract. The invariant of its loop is `Descending`; the measure is what is left of the words. Assumes nothing.
use native.Mathlib.Omega.{arith}
use lib.ListN.{get_or}
use Rattle.bits16.proofs.Laws.{lowest_some}
use Rattle.bitmap_search.proofs.Descent.{descend_step, descend_done, never_none}
use Rattle.bitmap_search.proofs.descend.Goals as goal

pub returns-then-i-eq16 : goal.returns-then-i-eq16
returns-then-i-eq16 c = λ a.
    let t = c.args.tree.now in
    let l = c.loop-m in
    let fits = c.shared_slice_known-in-loop-m-1.given l.m in
    let some = never_none t _ l.m l.invariant c.loop-m-test.true a in
    let lt = lowest_some (get_or t l.m 0) c.lowest-i.result fits.fits c.lowest-i.ensures some in
    omega (arith, c.if-i-eq16.true)

pub loop-m-preserved : goal.loop-m-preserved
loop-m-preserved c =
    let l = c.loop-m in
    let h = c.lowest-i.ensures.high in
    descend_step _ _ l.m c.lowest-i.result c.loop-m-test.true c.lowest-i.ensures (omega (arith, c.if-i-eq16.false)) l.invariant

pub returns : goal.returns
returns c = let p = c.requires in descend_done _ _ _ c.loop-m.invariant p.1 c.loop-m-test.false
