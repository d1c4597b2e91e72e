-- `replayframes_views::rf_config_pool` meets its contract. Assumes nothing.
use Rattle.config_table.specs.Holding.{PoolSays}
use Rattle.replayframes_views.specs.Views.{result_code, result_value, no_table_code, span_of}
use Rattle.codes.proofs.Codes.{valued}
use Rattle.replayframes_views.proofs.rf_config_pool.Goals as goal

pub returns-in-Ok : goal.returns-in-Ok
returns-in-Ok c = valued (PoolSays _) (result_code no_table_code) (result_value span_of) _ c.pool.ensures c.in-Ok.is

pub returns-in-Err : goal.returns-in-Err
returns-in-Err c = valued (PoolSays _) (result_code no_table_code) (result_value span_of) _ c.pool.ensures c.in-Err.is
