-- `bitmap_search::next_from` meets its contract. The invariant of its loop is `Rising`; the measure is the end of the row. Assumes nothing.
use mathlib.Core.Path.{refl, ◌∙◌}
use Prim.Native.Nat.{◌-◌, ◌/◌}
use native.Mathlib.Omega.{arith}
use lib.ListN.{get_or}
use Rattle.bits16.proofs.Laws.{lowest_set}
use Rattle.bitmap_tree.proofs.Nodes.{child_bit}
use Rattle.bitmap_tree.proofs.Fullness.{full_bound}
use Rattle.bitmap_search.proofs.Rise.{rise_start, rise_step, rise_done, found_next}
use Rattle.bitmap_search.proofs.next_from.Goals as goal

pub overflow_add-n : goal.overflow_add-n
overflow_add-n c = let b = full_bound _ c.requires.0 in omega arith

pub overflow_mul-end : goal.overflow_mul-end
overflow_mul-end c = let b = full_bound _ c.requires.0 in omega arith

pub overflow_add-end : goal.overflow_add-end
overflow_add-end c = let b = full_bound _ c.requires.0 in omega arith

pub loop-n-init : goal.loop-n-init
loop-n-init c =
    let p = c.requires in
    let b = full_bound _ p.0 in
    rise_start _ _ p.0 (omega arith) (omega arith) (omega arith)

pub descend-requires : goal.descend-requires
descend-requires c =
    let b = full_bound _ c.requires.0 in
    let t = c.args.tree.now in
    let l = c.loop-n in
    let i = l.invariant.top in
    let p = l.invariant.pos in
    let more = c.loop-n-test.true in
    let some = c.if-i-lt16.true in (
      omega arith,
      b.0,
      b.1,
      record {
        set = λ _. child_bit t ((l.n - 1) / 16) c.lowest_from-i.result some ∙ lowest_set (get_or t ((l.n - 1) / 16) 0) c.lowest_from-i.ensures some;
        root = λ e. absurd (omega arith);
      },
    )

pub returns-then-i-lt16 : goal.returns-then-i-lt16
returns-then-i-lt16 c =
    let l = c.loop-n in
    found_next c.args.tree.now _ l.n l.end c.lowest_from-i.result c.loop-n-test.true l.invariant c.lowest_from-i.ensures _ _ refl c.if-i-lt16.true
    (c.in_ok-r.ensures)

pub loop-n-preserved : goal.loop-n-preserved
loop-n-preserved c =
    let l = c.loop-n in
    let h = c.lowest_from-i.ensures.high in
    rise_step c.args.tree.now _ l.n l.end c.lowest_from-i.result c.loop-n-test.true l.invariant c.lowest_from-i.ensures (omega (arith, c.if-i-lt16.false))

pub returns : goal.returns
returns c = λ a m g h.
    let l = c.loop-n in
    rise_done _ _ l.n l.end l.invariant c.loop-n-test.false a _ (omega arith) (omega arith) (omega arith)
