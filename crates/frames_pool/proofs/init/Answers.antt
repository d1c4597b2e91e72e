-- `frames_pool::init` meets its contract. Assumes nothing.
use native.Mathlib.Omega.{arith}
use Rattle.frames_pool.proofs.Cleaning.{init}
use Rattle.frames_pool.proofs.init.Goals as goal

pub begin-requires : goal.begin-requires
begin-requires c = let m = c.in_ok-fitting.ensures.matched in let e = m.bytes in let n = c.if-not-is_backed.ensures.few in (m, omega arith)

pub returns : goal.returns
returns c = init _ _ _ _ _ _ _ (record { backed = c.if-not-is_backed.ensures; fits = c.in_ok-fitting.ensures }) (omega arith) c.wipe.ensures c.begin.ensures
