-- `bitmap_runs::find_long` meets its contract. The invariant of its loop is `Searching`; the measure is what is left of the frames. Assumes nothing.
use native.Mathlib.Omega.{arith}
use Rattle.bitmap_tree.proofs.Fullness.{full_bound}
use Rattle.bitmap_runs.proofs.Windows.{too_far, found_run, search_step}
use Rattle.bitmap_runs.proofs.find_long.Goals as goal

pub overflow_mul-cap : goal.overflow_mul-cap
overflow_mul-cap c = let b = full_bound _ c.requires.0 in omega arith

pub overflow_add-cap : goal.overflow_add-cap
overflow_add-cap c = let b = full_bound _ c.requires.0 in omega arith

pub round_up-s-requires : goal.round_up-s-requires
round_up-s-requires c =
    let b = full_bound _ c.requires.0 in
    let nx = c.in_ok-f.ensures in
    let w = nx.within in
    let e = c.min-e.ensures in
    omega arith

pub returns-then-cap-s : goal.returns-then-cap-s
returns-then-cap-s c =
    let rd = rw c.min-e.ensures at c.round_up-s.ensures in
    too_far _ _ _ c.loop-k.k _ _ c.requires.0 c.requires.1 c.loop-k.invariant rd c.in_ok-f.ensures (omega arith)

pub overflow_add-w : goal.overflow_add-w
overflow_add-w c = let b = full_bound _ c.requires.0 in omega arith

pub overflow_add-w-in-loop-k : goal.overflow_add-w-in-loop-k
overflow_add-w-in-loop-k c = let b = full_bound _ c.requires.0 in omega arith

pub overflow_add-w-in-loop-k-2 : goal.overflow_add-w-in-loop-k-2
overflow_add-w-in-loop-k-2 c = let b = full_bound _ c.requires.0 in omega arith

pub set_since-requires : goal.set_since-requires
set_since-requires c = let b = full_bound _ c.requires.0 in omega arith

pub returns-then-r-s : goal.returns-then-r-s
returns-then-r-s c =
    let rd = rw c.min-e.ensures at c.round_up-s.ensures in
    let nx = c.in_ok-f.ensures in
    found_run _ _ _ c.loop-k.k _ _ c.requires.0 c.requires.1 c.loop-k.invariant rd nx (omega arith) _ c.set_since.ensures c.if-r-s.true

pub loop-k-preserved : goal.loop-k-preserved
loop-k-preserved c =
    let rd = rw c.min-e.ensures at c.round_up-s.ensures in
    let nx = c.in_ok-f.ensures in
    search_step _ _ _ c.loop-k.k _ _ c.requires.0 c.requires.1 c.loop-k.invariant rd nx (omega arith) _ c.set_since.ensures c.if-r-s.false
