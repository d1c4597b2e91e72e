-- `hv_looks::regions` meets its contract. Assumes nothing.
use Rattle.hv_looks.proofs.Laws.{counted}
use Rattle.hv_looks.proofs.regions.Goals as goal

pub returns : goal.returns
returns c = let h = c.in_ok-set_of.ensures in (h.0, h.1.readable, counted _ _ _ c.args.which _ h.0 h.1)
