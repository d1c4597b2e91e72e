-- `replayframes_start::rf_start` meets its contract. Assumes nothing.
use Rattle.codes.proofs.Codes.{coded, coded_by}
use Rattle.hv_start.specs.Starting.{StartSays}
use Rattle.replayframes_start.specs.Start.{started_code}
use Rattle.replayframes_start.proofs.rf_start.Goals as goal

pub returns-in-Ok : goal.returns-in-Ok
returns-in-Ok c = coded (StartSays _ _ _) started_code c.start.ensures c.in-Ok.is

pub returns-in-Err : goal.returns-in-Err
returns-in-Err c = coded_by (StartSays _ _ _) started_code c.start.ensures c.in-Err.is c.not_started.ensures
