-- `replayframes_views::rf_config_region` meets its contract. Assumes nothing.
use mathlib.Core.Path.{refl}
use Rattle.config_table.specs.Holding.{RegionSays}
use Rattle.replayframes_views.specs.Views.{result_code, result_value, no_region_code, fields_of}
use Rattle.codes.proofs.Codes.{valued_by}
use Rattle.replayframes_views.proofs.rf_config_region.Goals as goal

pub returns-in-Ok : goal.returns-in-Ok
returns-in-Ok c = valued_by (RegionSays _ _ _) (result_code no_region_code) (result_value fields_of) c.region.ensures c.in-Ok.is refl c.write_region.ensures

pub returns-in-Err : goal.returns-in-Err
returns-in-Err c = valued_by (RegionSays _ _ _) (result_code no_region_code) (result_value fields_of) c.region.ensures c.in-Err.is c.no_region_code.ensures refl
