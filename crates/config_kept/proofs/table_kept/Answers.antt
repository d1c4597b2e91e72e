-- `config_kept::table_kept` meets its contract. Assumes nothing.
use Rattle.config_kept.proofs.Laws.{table_said}
use Rattle.config_kept.proofs.table_kept.Goals as goal

pub returns-then-end_kept : goal.returns-then-end_kept
returns-then-end_kept c = table_said c.machines_kept.result c.requires c.if-end_kept.ensures c.machines_kept.ensures
