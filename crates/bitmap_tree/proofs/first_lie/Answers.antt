-- `bitmap_tree::first_lie` meets its contract. The invariant of its loop: every word passed is honest. Assumes nothing.
use native.Mathlib.Omega.{arith}
use borrow.Author.Count.{below_more}
use Rattle.bitmap_tree.proofs.Fullness.{full_bound, full_whole}
use Rattle.bitmap_tree.proofs.Summaries.{honest_word, honest_is}
use Rattle.bitmap_tree.proofs.first_lie.Goals as goal

pub overflow_sub-end : goal.overflow_sub-end
overflow_sub-end c = let b = full_bound _ c.requires in omega arith

pub summary-requires : goal.summary-requires
summary-requires c = let b = full_bound _ c.requires in let w = full_whole _ c.requires in omega arith

pub returns-then-summary-tree : goal.returns-then-summary-tree
returns-then-summary-tree c =
    let i = c.loop-p.invariant in
    record {
      low = omega arith;
      high = omega arith;
      before = λ q l h. i q h;
      fails = λ h s. c.if-summary-tree.true (honest_is _ c.loop-p.p _ (c.shared_slice_known-in-loop-p-1.given c.loop-p.p).fits c.summary.ensures s);
    }

pub loop-p-preserved : goal.loop-p-preserved
loop-p-preserved c =
    let i = c.loop-p.invariant in
    below_more _ c.loop-p.p i (honest_word _ c.loop-p.p _ c.summary.ensures c.if-summary-tree.false)
