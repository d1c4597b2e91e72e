-- `replayframes_views::rf_config_machines` meets its contract. Assumes nothing.
use Rattle.config_table.specs.Holding.{MachinesSays}
use Rattle.replayframes_views.specs.Views.{result_code, result_value, no_table_code, itself}
use Rattle.codes.proofs.Codes.{valued}
use Rattle.replayframes_views.proofs.rf_config_machines.Goals as goal

pub returns-in-Ok : goal.returns-in-Ok
returns-in-Ok c = valued (MachinesSays _) (result_code no_table_code) (result_value itself) _ c.machines.ensures c.in-Ok.is

pub returns-in-Err : goal.returns-in-Err
returns-in-Err c = valued (MachinesSays _) (result_code no_table_code) (result_value itself) _ c.machines.ensures c.in-Err.is
