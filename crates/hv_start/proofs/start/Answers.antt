-- `hv_start::start` meets its contract. Assumes nothing.
use native.Mathlib.Omega.{arith}
use Rattle.hv_start.proofs.Empty.{zeros}
use Rattle.hv_start.proofs.Starts.{starts}
use Rattle.hv_start.proofs.start.Goals as goal

pub returns : goal.returns
returns c = starts _ _ _ c.in_ok-base.base c.load.result c.init.result (λ j. omega (arith, c.type_inv.bytes j)) c.in_ok-base.ensures c.load.ensures (zeros _ _ c.fill.ensures.len (c.fill.ensures.after (λ y e. e))) c.init.ensures
