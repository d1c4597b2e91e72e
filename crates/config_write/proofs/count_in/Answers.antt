-- `config_write::count_in` meets its contract. Assumes nothing.
use mathlib.Core.Path.{◌∙◌}
use native.Mathlib.Omega.{arith}
use Rattle.config_view.specs.View.{viewed}
use Rattle.config_write.proofs.Laws.{count_in_lem, count_out}
use Rattle.config_write.proofs.count_in.Goals as goal

pub returns-then-m-machines : goal.returns-then-m-machines
returns-then-m-machines c = (c.count.ensures.0 ∙ count_in_lem (viewed c.args.v.now) c.args.m (omega arith), c.count.ensures.1)

pub returns-else-m-machines : goal.returns-else-m-machines
returns-else-m-machines c = (count_out (viewed c.args.v.now) c.args.m (omega arith), omega arith)
