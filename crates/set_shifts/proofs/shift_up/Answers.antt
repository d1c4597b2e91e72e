-- `set_shifts::shift_up` meets its contract. Assumes nothing.
use mathlib.Core.Path.{◌≡◌, subst}
use Prim.Native.Nat.{ℕ, ◌+◌, ◌-◌, ◌*◌}
use native.Mathlib.Omega.{arith}
use Rattle.region_words.specs.Words.{Put}
use Rattle.set_shifts.specs.Shifts.{ShiftedUp}
use Rattle.set_shifts.proofs.Steps.{up_step}
use Rattle.set_shifts.proofs.shift_up.Goals as goal

pub loop-i-preserved : goal.loop-i-preserved
loop-i-preserved c =
    let i = c.loop-i.i in
    let e : i - 1 + 1 ≡ i = omega arith in
    (omega arith, up_step c.args.at i (i - 1) e (omega arith) c.loop-i.invariant.1 c.get-r.ensures (subst (λ (k : ℕ). Put c.loop-i.z (c.args.at + 1 + 4 * k) c.get-r.result c.put.new.t) e c.put.ensures))

pub returns : goal.returns
returns c = let e : c.loop-i.i ≡ c.args.p = omega arith in subst (λ (i : ℕ). ShiftedUp c.args.z.now c.args.at i c.args.n c.loop-i.z) e c.loop-i.invariant.1
