-- `config_encode::put_machine` meets its contract. Assumes nothing.
use Rattle.config_view.specs.Table.{table_config}
use Rattle.config_encode.proofs.Laws.{wrote_machine}
use Rattle.config_encode.proofs.put_machine.Goals as goal

pub returns : goal.returns
returns c = wrote_machine (table_config c.args.t.now) c.args.m c.args.p c.count-n.result c.number.result c.number.ensures c.count-n.ensures.0 c.put16.ensures c.put16-2.ensures c.put_regions.ensures
