-- `config_kept::machines_kept` meets its contract. Assumes nothing.
use borrow.Author.Count.{below_more}
use native.Mathlib.Omega.{arith}
use Rattle.config_view.specs.Table.{table_config}
use Rattle.config_write.specs.Writing.{MachineIn}
use Rattle.config_kept.proofs.machines_kept.Goals as goal

pub loop-m-preserved : goal.loop-m-preserved
loop-m-preserved c = below_more (λ k. MachineIn (table_config c.args.t.now) k c.args.t.now) c.loop-m.m c.loop-m.invariant c.if-not-machine_kept.ensures

pub returns : goal.returns
returns c = λ m l. c.loop-m.invariant m (omega arith)
