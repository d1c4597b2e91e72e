-- `bits16::fill` meets its contract: its mask is 0 filled with 1, and the laws of masks do the rest. Assumes nothing.
use mathlib.Core.Path.{◌≡◌}
use native.Mathlib.Omega.{arith}
use lib.Pow.{pow_mono}
use Rattle.bits16.proofs.Masks.{one_shl, mask_filled, filled_one, filled_zero}
use Rattle.bits16.proofs.fill.Goals as goal

pub overflow_sub-m : goal.overflow_sub-m
overflow_sub-m c = rw (one_shl c.args.e c.requires.1, one_shl c.args.i (omega arith)) (pow_mono c.requires.0)

pub returns-then-v-eq1 : goal.returns-then-v-eq1
returns-then-v-eq1 c =
    let a = c.args in
    let p = c.requires in
    rw c.if-v-eq1.true (filled_one a.w a.i a.e _ c.ranges.w.fits (mask_filled a.i a.e p.0 p.1))

pub returns-else-v-eq1 : goal.returns-else-v-eq1
returns-else-v-eq1 c =
    let a = c.args in
    let p = c.requires in
    let z : a.v ≡ 0 = omega (arith, c.if-v-eq1.false) in
    rw z (filled_zero a.w a.i a.e _ c.ranges.w.fits (mask_filled a.i a.e p.0 p.1))
