-- `zones::locate` meets its contract. Assumes nothing.
use Rattle.zones.proofs.Laws.{located}
use Rattle.zones.proofs.locate.Goals as goal

pub returns : goal.returns
returns c = located _ _ _ _ _ c.look.result c.in_ok-m.ensures c.in_ok-n.ensures.1 c.look.ensures
