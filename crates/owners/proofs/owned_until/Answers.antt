-- `owners::owned_until` meets its contract. Assumes nothing.
use Rattle.owners.proofs.Writes.{owned_stops}
use Rattle.owners.proofs.owned_until.Goals as goal

pub returns : goal.returns
returns c = owned_stops _ _ _ _ _ _ _ c.requires.3 c.byte_until-named.ensures c.taken_until.ensures
