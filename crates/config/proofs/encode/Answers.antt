-- `config::encode` meets its contract. Assumes nothing.
use Rattle.config.proofs.Laws.{encoded}
use Rattle.config.proofs.encode.Goals as goal

pub returns : goal.returns
returns c = encoded c.args.table.now c.args.out.now _ c.size_of-n.result c.in_ok-check_table.ensures.0 c.size_of-n.ensures c.if-out-n.false c.put_all.ensures
