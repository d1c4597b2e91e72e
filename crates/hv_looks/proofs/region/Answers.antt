-- `hv_looks::region` meets its contract. Assumes nothing.
use native.Mathlib.Omega.{arith}
use Rattle.hv_looks.proofs.Laws.{no_region_lem, reads, is_region}
use Rattle.hv_looks.proofs.region.Goals as goal

pub returns-then-spot-i : goal.returns-then-spot-i
returns-then-spot-i c = let h = c.in_ok-spot.ensures in (h.0, h.1.readable, no_region_lem _ _ _ c.args.which _ h.0 h.1 _ c.if-spot-i.true)

pub returns : goal.returns
returns c = let h = c.in_ok-spot.ensures in is_region _ _ _ c.args.which _ h.0 h.1 _ _ c.if-spot-i.false c.get.ensures
