-- `config_write::number_in` meets its contract. Assumes nothing.
use mathlib.Core.Path.{◌∙◌}
use native.Mathlib.Omega.{arith}
use Rattle.config_view.specs.View.{viewed}
use Rattle.config_write.proofs.Laws.{number_in_lem, number_out}
use Rattle.config_write.proofs.number_in.Goals as goal

pub returns-then-m-machines : goal.returns-then-m-machines
returns-then-m-machines c = c.number.ensures ∙ number_in_lem (viewed c.args.v.now) c.args.m (omega arith)

pub returns-else-m-machines : goal.returns-else-m-machines
returns-else-m-machines c = number_out (viewed c.args.v.now) c.args.m (omega arith)
