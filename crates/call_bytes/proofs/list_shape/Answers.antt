-- `call_bytes::list_shape` meets its contract. Assumes nothing.
use Prim.Native.Nat.{◌+◌, ◌-◌, ◌*◌, ◌/◌}
use Rattle.std.specs.Prelude.{◌≢◌}
use native.Mathlib.Omega.{arith}
use Rattle.call_bytes.proofs.Laws.{list_some, first_wrong}
use Rattle.call_bytes.proofs.list_shape.Goals as goal

pub overflow_sub-n : goal.overflow_sub-n
overflow_sub-n c = list_some _ _ _ c.requires.1

pub returns-else-len-n : goal.returns-else-len-n
returns-else-len-n c =
    let l = list_some _ _ _ c.requires.1 in
    let k : c.args.len ≢ 1 + 33 * ((c.args.len - 1) / 33) = c.if-len-n.false in
    first_wrong c.requires.1 (omega arith) (λ j h. c.loop-i.invariant j (omega arith)) (λ m. let h = m.within in omega arith)
