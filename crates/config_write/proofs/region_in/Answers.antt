-- `config_write::region_in` meets its contract. Assumes nothing.
use mathlib.Core.Path.{◌∙◌}
use Prim.Native.Nat.{◌<◌}
use native.Mathlib.Omega.{arith}
use Rattle.config_view.specs.Table.{count_in}
use Rattle.config_view.specs.View.{viewed}
use Rattle.config_write.proofs.Laws.{count_in_lem, region_in_lem, region_out, counted}
use Rattle.config_write.proofs.region_in.Goals as goal

pub region-requires : goal.region-requires
region-requires c = let e = c.requires.n_value.0 in let k : c.args.i < count_in (viewed c.args.v.now) c.args.m = omega arith in let l = counted (viewed c.args.v.now) c.args.m c.args.i k in record { in_view = c.requires.in_view; m_bound = (l, c.requires.n_value.1 l); i_bound = omega (arith, count_in_lem (viewed c.args.v.now) c.args.m l) }

pub returns-then-i-n : goal.returns-then-i-n
returns-then-i-n c = let e = c.requires.n_value.0 in c.region.ensures ∙ region_in_lem (viewed c.args.v.now) c.args.m c.args.i (omega arith)

pub returns : goal.returns
returns c = let e = c.requires.n_value.0 in region_out (viewed c.args.v.now) c.args.m c.args.i (omega arith)
