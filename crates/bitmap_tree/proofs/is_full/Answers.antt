-- `bitmap_tree::is_full` meets its contract. Assumes nothing.
use Prim.Native.Nat.{◌+◌}
use native.Mathlib.Omega.{arith}
use borrow.Author.Count.{below_more}
use Rattle.bitmap_tree.proofs.Fullness.{level_next, pow_le}
use Rattle.bitmap_tree.proofs.is_full.Goals as goal

pub overflow_mul-s : goal.overflow_mul-s
overflow_mul-s c = omega (arith, pow_le c.loop-depth._depth 15 (omega arith))

pub overflow_add-s : goal.overflow_add-s
overflow_add-s c = omega (arith, pow_le c.loop-depth._depth 15 (omega arith))

pub returns-then-s-w : goal.returns-then-s-w
returns-then-s-w c =
    let l = c.loop-depth in
    record {
      depth = l._depth + 1;
      some = omega arith;
      few = omega arith;
      count = rw (← c.if-s-w.true) (level_next l.s l._depth l.invariant.0);
    }

pub loop-depth-preserved : goal.loop-depth-preserved
loop-depth-preserved c =
    let l = c.loop-depth in
    let next = level_next l.s l._depth l.invariant.0 in
    (next, below_more _ _ l.invariant.1 (λ p e. c.if-s-w.false (omega arith)))
