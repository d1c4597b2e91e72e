-- `config_encode::put_machines` meets its contract. Assumes nothing.
use Prim.Native.Nat.{suc, ◌<◌}
use native.Mathlib.Numerals.{add-one}
use native.Mathlib.Omega.{arith}
use Rattle.config_view.specs.Table.{table_config}
use Rattle.config_encode.proofs.Laws.{start_first, start_next, start_grows, machines_wrote_none, machines_wrote_more}
use Rattle.config_encode.proofs.put_machines.Goals as goal

pub loop-m-init : goal.loop-m-init
loop-m-init c = (start_first _, machines_wrote_none _ _)

pub put_machine-requires : goal.put_machine-requires
put_machine-requires c = let f = c.machines-n.ensures.0 in let l : c.loop-m.m < (table_config c.args.t.now).machines = omega arith in let k = c.loop-m.invariant.1.only.long in let e = c.loop-m.invariant.0 in let z = c.requires.t_in_bounds in record { t_len = c.requires.t_len; m_bound = l; m_in_bounds = omega (arith, start_next (table_config c.args.t.now) c.loop-m.m, start_grows (table_config c.args.t.now) (suc c.loop-m.m) (table_config c.args.t.now).machines l) }

pub loop-m-preserved : goal.loop-m-preserved
loop-m-preserved c = (rw add-one c.behind-p.ensures, machines_wrote_more c.loop-m.invariant.0 c.loop-m.invariant.1 c.put_machine.ensures)
