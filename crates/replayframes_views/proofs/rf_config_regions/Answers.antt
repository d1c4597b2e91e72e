-- `replayframes_views::rf_config_regions` meets its contract. Assumes nothing.
use mathlib.Core.Path.{refl}
use Rattle.config_table.specs.Holding.{CountSays}
use Rattle.replayframes_views.specs.Views.{result_code, result_value, unlisted_code, itself}
use Rattle.codes.proofs.Codes.{valued, valued_by}
use Rattle.replayframes_views.proofs.rf_config_regions.Goals as goal

pub returns-in-Ok : goal.returns-in-Ok
returns-in-Ok c = valued (CountSays _ _) (result_code unlisted_code) (result_value itself) _ c.count.ensures c.in-Ok.is

pub returns-in-Err : goal.returns-in-Err
returns-in-Err c = valued_by (CountSays _ _) (result_code unlisted_code) (result_value itself) c.count.ensures c.in-Err.is c.unlisted_code.ensures refl
