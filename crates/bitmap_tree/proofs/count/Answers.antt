-- `bitmap_tree::count` meets its contract. The invariant of its loop is `Counting`. Assumes nothing.
use native.Mathlib.Omega.{arith}
use lib.ListN.{get_or}
use Rattle.bitmap_tree.proofs.Fullness.{full_bound}
use Rattle.bitmap_tree.proofs.Counts.{count_start, count_small, count_step, word_le}
use Rattle.bitmap_tree.proofs.count.Goals as goal

pub overflow_sub-p : goal.overflow_sub-p
overflow_sub-p c = let b = full_bound _ c.requires in omega arith

pub loop-p-init : goal.loop-p-init
loop-p-init c = count_start _ c.requires

pub overflow_add-total : goal.overflow_add-total
overflow_add-total c =
    let e = c.ones.ensures in
    let b = word_le (get_or c.args.tree.now c.loop-p.p 0) in
    let s = count_small _ c.loop-p.p c.loop-p.total c.loop-p.invariant in
    let f = full_bound _ c.requires in
    omega arith

pub loop-p-preserved : goal.loop-p-preserved
loop-p-preserved c = rw c.ones.ensures (count_step _ c.loop-p.p c.loop-p.total c.loop-p-test.true c.loop-p.invariant)
