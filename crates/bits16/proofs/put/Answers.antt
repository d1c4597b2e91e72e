-- `bits16::put` meets its contract. Assumes nothing.
use mathlib.Core.Path.{◌≡◌}
use Prim.Native.Nat.{◌+◌}
use native.Mathlib.Omega.{arith}
use Rattle.bits16.proofs.Masks.{bit_filled, filled_one, filled_zero}
use Rattle.bits16.proofs.put.Goals as goal

pub returns-then-v-eq1 : goal.returns-then-v-eq1
returns-then-v-eq1 c = rw c.if-v-eq1.true (filled_one c.args.w c.args.i (c.args.i + 1) _ c.ranges.w.fits (bit_filled c.args.i c.requires.0))

pub returns-else-v-eq1 : goal.returns-else-v-eq1
returns-else-v-eq1 c =
    let z : c.args.v ≡ 0 = let p = c.requires in omega (arith, c.if-v-eq1.false) in
    rw z (filled_zero c.args.w c.args.i (c.args.i + 1) _ c.ranges.w.fits (bit_filled c.args.i c.requires.0))
