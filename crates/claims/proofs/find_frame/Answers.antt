-- `claims::find_frame` meets its contract. Assumes nothing.
use Rattle.claims.proofs.Offers.{offered}
use Rattle.claims.proofs.find_frame.Goals as goal

pub returns : goal.returns
returns c = offered _ _ _ _ (record { fits = c.in_ok-fitting.ensures; client = c.if-c-ge64.false }) _ c.in_ok-k.ensures c.if-not-placed.ensures
