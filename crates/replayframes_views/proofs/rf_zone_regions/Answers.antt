-- `replayframes_views::rf_zone_regions` meets its contract. Assumes nothing.
use mathlib.Core.Path.{refl}
use Rattle.machine.specs.declared.Which.{Which}
use Rattle.hv_looks.specs.Looks.{SetSizeSays}
use Rattle.replayframes_views.specs.Views.{result_code, result_value, not_seen_code, itself}
use Rattle.replayframes_views.proofs.Laws.{no_set_lem, of_set}
use Rattle.replayframes_views.proofs.rf_zone_regions.Goals as goal

pub returns-then-which-gt1 : goal.returns-then-which-gt1
returns-then-which-gt1 c = no_set_lem (λ (w : Which). SetSizeSays c.args.table.now c.args.zones.now c.args.number w) (result_code not_seen_code) (result_value itself) _ _ c.if-which-gt1.true

pub returns-in-Ok : goal.returns-in-Ok
returns-in-Ok c = of_set (λ (w : Which). SetSizeSays c.args.table.now c.args.zones.now c.args.number w) (result_code not_seen_code) (result_value itself) c.args.which c.which_of-set.result c.if-which-gt1.false c.which_of-set.ensures c.regions.ensures c.in-Ok.is refl refl

pub returns-in-Err : goal.returns-in-Err
returns-in-Err c = of_set (λ (w : Which). SetSizeSays c.args.table.now c.args.zones.now c.args.number w) (result_code not_seen_code) (result_value itself) c.args.which c.which_of-set.result c.if-which-gt1.false c.which_of-set.ensures c.regions.ensures c.in-Err.is c.not_seen_code.ensures refl
