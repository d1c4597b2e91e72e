-- `list_clearing::clear_from` meets its contract. Assumes nothing.
use Rattle.list_clearing.proofs.Laws.{from_cleared}
use Rattle.list_clearing.proofs.clear_from.Goals as goal

pub returns : goal.returns
returns c = from_cleared c.args.first c.args.addr c.args.n _ c.saturating_sub.ensures c.clear_run.ensures
