-- `hv_looks::set_of` meets its contract. Assumes nothing.
use mathlib.Core.Path.{sym}
use Rattle.base.proofs.Says.{told}
use Rattle.zones.specs.Layout.{IsZone}
use Rattle.hv_looks.specs.Looks.{machines_in, named, PlaceSays}
use Rattle.hv_looks.proofs.Laws.{placed}
use Rattle.hv_looks.proofs.set_of.Goals as goal
use Rattle.hv_looks.proofs.set_of.Goals.{in-Away, in-Here}

pub returns : goal.returns
returns c =
    let is : IsZone c.args.zones.now (machines_in c.args.table.now) (named c.args.table.now c.args.number) c.match-branch-2.zone = elim c.match-branch-2.branch [
      | in-Away w ↦ rw w.zone-is (rw w.in-Away.is at c.in_ok-zone.ensures).1.0
      | in-Here w ↦ rw w.zone-is (rw w.in-Here.is at c.in_ok-zone.ensures).1.0
    ] in
    told (PlaceSays _ _ _ _) (sym c.ok_or.ensures.value) (placed _ _ _ _ c.if-table-ne8325.false is c.args.which c.spot_in.result c.spot_in.ensures)
