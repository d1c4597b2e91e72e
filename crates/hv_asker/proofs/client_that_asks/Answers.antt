-- `hv_asker::client_that_asks` meets its contract. Assumes nothing.
use mathlib.Core.Path.{ap}
use native.Mathlib.Omega.{arith}
use Rattle.hv_asker.proofs.client_that_asks.Goals as goal

pub returns : goal.returns
returns c = let h = c.in_ok-zone.ensures in record { here = h.0; client = h.1.index; base = ap (λ x. x.host) c.in-Ok.ensures.1; place = h.1.place; slots = h.1.slots; inside = h.1.inside }
