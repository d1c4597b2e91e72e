-- `replayframes_views::rf_config_number` meets its contract. Assumes nothing.
use mathlib.Core.Path.{refl}
use Rattle.config_table.specs.Holding.{NumberSays}
use Rattle.replayframes_views.specs.Views.{result_code, result_value, unlisted_code, itself}
use Rattle.codes.proofs.Codes.{valued, valued_by}
use Rattle.replayframes_views.proofs.rf_config_number.Goals as goal

pub returns-in-Ok : goal.returns-in-Ok
returns-in-Ok c = valued (NumberSays _ _) (result_code unlisted_code) (result_value itself) _ c.number.ensures c.in-Ok.is

pub returns-in-Err : goal.returns-in-Err
returns-in-Err c = valued_by (NumberSays _ _) (result_code unlisted_code) (result_value itself) c.number.ensures c.in-Err.is c.unlisted_code.ensures refl
