-- `config_write::write_table` meets its contract. Assumes nothing.
use Rattle.config_view.specs.View.{viewed}
use Rattle.config_write.proofs.Laws.{pool_wrote}
use Rattle.config_write.proofs.write_table.Goals as goal

pub returns : goal.returns
returns c = pool_wrote (viewed c.args.v.now) c.machines.result c.pool-pool.result _ _ c.machines.ensures.0 c.pool-pool.ensures c.write_machines.ensures c.put.ensures
