-- `config::check_table` meets its contract. Assumes nothing.
use Rattle.config.proofs.Laws.{table_rules}
use Rattle.config.proofs.check_table.Goals as goal

pub returns : goal.returns
returns c = (record { table = c.if-not-table_kept.ensures; ok = table_rules c.args.table.now c.in_ok-judge.ensures }, c.machines.ensures.0)
