-- `bits16::lowest_from` meets its contract, by the laws of the lowest bit of a shifted word. Assumes nothing.
use native.Mathlib.Omega.{arith}
use Rattle.bits16.proofs.Laws.{lowest_none, lowest_shift}
use Rattle.bits16.proofs.lowest_from.Goals as goal

pub returns-then-high-eq0 : goal.returns-then-high-eq0
returns-then-high-eq0 c = lowest_none c.args.w c.args.i (omega arith) c.if-high-eq0.true

pub returns : goal.returns
returns c =
    let s = c in
    lowest_shift s.args.w s.args.i c.lowest.result s.ranges.w.fits c.lowest.ensures c.if-high-eq0.false
