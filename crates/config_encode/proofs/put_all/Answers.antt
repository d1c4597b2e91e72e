-- `config_encode::put_all` meets its contract. Assumes nothing.
use mathlib.Core.Path.{ap}
use Rattle.address.specs.declared.Region.{Region}
use Rattle.config_view.specs.Table.{table_config}
use Rattle.config_encode.proofs.Laws.{wrote_all}
use Rattle.config_encode.proofs.put_all.Goals as goal

pub returns : goal.returns
returns c = wrote_all (table_config c.args.t.now) c.machines.result c.put_machines-p.result c.pool-pool.result.host c.pool-pool.result.pages c.machines.ensures.0 c.put_machines-p.ensures.0 (ap (λ (r : Region). r.host) c.pool-pool.ensures) (ap (λ (r : Region). r.pages) c.pool-pool.ensures) c.put16.ensures c.put_machines-p.ensures.1 c.put64.ensures c.put64-2.ensures
