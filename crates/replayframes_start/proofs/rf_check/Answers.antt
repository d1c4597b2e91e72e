-- `replayframes_start::rf_check` meets its contract. Assumes nothing.
use Rattle.codes.proofs.Codes.{coded, coded_by}
use Rattle.hv_check.specs.Checking.{CheckSays}
use Rattle.replayframes_start.specs.Start.{checked_code}
use Rattle.replayframes_start.proofs.rf_check.Goals as goal

pub returns-in-Ok : goal.returns-in-Ok
returns-in-Ok c = coded (CheckSays _) checked_code c.check.ensures c.in-Ok.is

pub returns-in-Err : goal.returns-in-Err
returns-in-Err c = coded_by (CheckSays _) checked_code c.check.ensures c.in-Err.is c.not_sound.ensures
