-- `replayframes_views::rf_zone_region` meets its contract. Assumes nothing.
use mathlib.Core.Path.{refl}
use Rattle.machine.specs.declared.Which.{Which}
use Rattle.hv_looks.specs.Looks.{SetRegionSays}
use Rattle.replayframes_views.specs.Views.{result_code, result_value, unseen_code, fields_of}
use Rattle.replayframes_views.proofs.Laws.{no_set_lem, of_set}
use Rattle.replayframes_views.proofs.rf_zone_region.Goals as goal

pub returns-then-which-gt1 : goal.returns-then-which-gt1
returns-then-which-gt1 c = no_set_lem (λ (w : Which). SetRegionSays c.args.table.now c.args.zones.now c.args.number w c.args.i) (result_code unseen_code) (result_value fields_of) _ _ c.if-which-gt1.true

pub returns-in-Ok : goal.returns-in-Ok
returns-in-Ok c = of_set (λ (w : Which). SetRegionSays c.args.table.now c.args.zones.now c.args.number w c.args.i) (result_code unseen_code) (result_value fields_of) c.args.which c.which_of-set.result c.if-which-gt1.false c.which_of-set.ensures c.region.ensures c.in-Ok.is refl c.write_region.ensures

pub returns-in-Err : goal.returns-in-Err
returns-in-Err c = of_set (λ (w : Which). SetRegionSays c.args.table.now c.args.zones.now c.args.number w c.args.i) (result_code unseen_code) (result_value fields_of) c.args.which c.which_of-set.result c.if-which-gt1.false c.which_of-set.ensures c.region.ensures c.in-Err.is c.unseen_code.ensures refl
