-- `bitmap_search::taken_until` meets its contract. Assumes nothing.
use native.Mathlib.Omega.{arith}
use Rattle.bitmap_tree.proofs.Fullness.{full_bound}
use Rattle.bitmap_search.proofs.Row.{word_passed, word_ends}
use Rattle.bitmap_search.proofs.taken_until.Goals as goal

pub overflow_add-n : goal.overflow_add-n
overflow_add-n c = let q = full_bound _ c.requires.0 in omega arith

pub overflow_add-w : goal.overflow_add-w
overflow_add-w c = let q = full_bound _ c.requires.0 in omega arith

pub overflow_sub-p : goal.overflow_sub-p
overflow_sub-p c = let q = full_bound _ c.requires.0 in let l = c.loop-n.invariant.low in omega arith

pub bounds-tree-p : goal.bounds-tree-p
bounds-tree-p c = let q = full_bound _ c.requires.0 in let l = c.loop-n.invariant.low in omega arith

pub overflow_sub-n : goal.overflow_sub-n
overflow_sub-n c = let q = full_bound _ c.requires.0 in let l = c.loop-n.invariant.low in omega arith

pub overflow_add-p-then-i-lt16 : goal.overflow_add-p-then-i-lt16
overflow_add-p-then-i-lt16 c = let q = full_bound _ c.requires.0 in let l = c.loop-n.invariant.low in omega arith

pub returns-then-i-lt16 : goal.returns-then-i-lt16
returns-then-i-lt16 c = let q = full_bound _ c.requires.0 in let l = c.loop-n.invariant.low in rw c.min.ensures (word_ends _ _ c.loop-n.n c.lowest_from-i.result (omega arith) c.loop-n.invariant c.lowest_from-i.ensures _ c.if-i-lt16.true c.loop-n-test.true q.0)

pub overflow_add-n-in-loop-n : goal.overflow_add-n-in-loop-n
overflow_add-n-in-loop-n c = let q = full_bound _ c.requires.0 in omega arith

pub loop-n-preserved : goal.loop-n-preserved
loop-n-preserved c = let q = full_bound _ c.requires.0 in let l = c.loop-n.invariant.low in let h = c.lowest_from-i.ensures.high in word_passed _ _ c.loop-n.n c.lowest_from-i.result (omega arith) c.loop-n.invariant c.lowest_from-i.ensures (omega (arith, c.if-i-lt16.false))
