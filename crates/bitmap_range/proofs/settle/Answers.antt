-- `bitmap_range::settle` meets its contract. Assumes nothing.
use mathlib.Core.Path.{◌≡◌}
use native.Mathlib.Omega.{arith}
use Rattle.bitmap_range.proofs.Mending.{settled_root}
use Rattle.bitmap_range.proofs.settle.Goals as goal

pub returns-else-n-gt0 : goal.returns-else-n-gt0
returns-else-n-gt0 c =
    let e : c.args.n ≡ 0 = omega (arith, c.if-n-gt0.false) in
    rw e (settled_root _)
