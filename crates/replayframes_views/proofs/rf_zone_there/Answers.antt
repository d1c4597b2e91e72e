-- `replayframes_views::rf_zone_there` meets its contract. Assumes nothing.
use mathlib.Core.Path.{refl}
use Rattle.hv_looks.specs.Looks.{PresenceSays}
use Rattle.replayframes_views.specs.Views.{result_code, result_value, not_seen_code, there_value}
use Rattle.codes.proofs.Codes.{valued_by}
use Rattle.replayframes_views.proofs.Laws.{there_byte}
use Rattle.replayframes_views.proofs.rf_zone_there.Goals as goal

pub returns-in-Ok : goal.returns-in-Ok
returns-in-Ok c = valued_by (PresenceSays _ _ _) (result_code not_seen_code) (result_value there_value) c.is_there.ensures c.in-Ok.is refl (there_byte c.in-Ok.answer)

pub returns-in-Err : goal.returns-in-Err
returns-in-Err c = valued_by (PresenceSays _ _ _) (result_code not_seen_code) (result_value there_value) c.is_there.ensures c.in-Err.is c.not_seen_code.ensures refl
