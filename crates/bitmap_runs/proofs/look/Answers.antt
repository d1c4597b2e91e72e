-- `bitmap_runs::look` meets its contract. Assumes nothing.
use native.Mathlib.Omega.{arith}
use Rattle.std.proofs.Common.{rules}
use Rattle.bitmap_tree.proofs.Fullness.{full_bound, full_whole}
use Rattle.bitmap_runs.proofs.Starts.{scan_found, scan_next, scan_jump, scan_err}
use Rattle.bitmap_runs.proofs.look.Goals as goal

pub overflow_mul-first : goal.overflow_mul-first
overflow_mul-first c = let b = full_bound _ c.requires.full.0 in let p = c.requires in omega arith

pub overflow_add-first : goal.overflow_add-first
overflow_add-first c = let b = full_bound _ c.requires.full.0 in let p = c.requires in omega arith

pub overflow_sub-first : goal.overflow_sub-first
overflow_sub-first c = let w = full_whole _ c.requires.full.0 in let l = c.requires.multiples.1.low in omega arith

pub overflow_add-result : goal.overflow_add-result
overflow_add-result c =
    let b = full_bound _ c.requires.full.0 in
    let nx = c.in_ok-f.ensures in
    let h = nx.within in
    omega arith

pub returns-in_err-f : goal.returns-in_err-f
returns-in_err-f c =
    let p = c.requires in
    let h = scan_err _ _ _ _ p.full.0 p.full.2 p.full.3 p.full.4 (c.shared_slice_known-2-1.given c.args.p).fits p.multiples.1 _ c.in_err-f.ensures in
    search rules

pub returns-then-word-eq0 : goal.returns-then-word-eq0
returns-then-word-eq0 c =
    let p = c.requires in
    scan_jump _ _ _ _ p.full.0 p.full.2 p.full.3 p.full.4 (c.shared_slice_known-2-1.given c.args.p).fits p.multiples.1 _ p.full.1 c.if-word-eq0.true
    (c.in_ok-f.ensures)

pub overflow_add-result-then-i-lt16 : goal.overflow_add-result-then-i-lt16
overflow_add-result-then-i-lt16 c = let b = full_bound _ c.requires.full.0 in let p = c.requires in let h = c.lowest-i.ensures.high in omega arith

pub overflow_sub-result-then-i-lt16 : goal.overflow_sub-result-then-i-lt16
overflow_sub-result-then-i-lt16 c = let w = full_whole _ c.requires.full.0 in let l = c.requires.multiples.1.low in omega arith

pub returns-then-i-lt16 : goal.returns-then-i-lt16
returns-then-i-lt16 c =
    let p = c.requires in
    scan_found _ _ _ _ p.full.0 p.full.2 p.full.3 p.full.4 (c.shared_slice_known-2-1.given c.args.p).fits p.multiples.1 _ _ _ p.multiples.0
    (rw c.word_at.ensures at c.starts-starts.ensures) c.lowest-i.ensures c.if-i-lt16.true

pub returns : goal.returns
returns c =
    let p = c.requires in
    let h = c.lowest-i.ensures.high in
    scan_next _ _ _ _ p.full.0 p.full.2 p.full.3 p.full.4 (c.shared_slice_known-2-1.given c.args.p).fits p.multiples.1 _ _ _ p.multiples.0
    (rw c.word_at.ensures at c.starts-starts.ensures) c.lowest-i.ensures (omega (arith, c.if-i-lt16.false)) p.full.1
