-- What the loop of `config_kept::machines_kept` keeps. Assumes nothing.
use Prim.Native.Nat.{ℕ, ◌<◌}
use Rattle.config_view.specs.Table.{table_config}
use Rattle.config_write.specs.Writing.{MachineIn}
use Rattle.config_kept.proofs.machines_kept.Given as goal

abbrev pub invariant-loop-m : goal.invariant-loop-m
invariant-loop-m l = (k : ℕ) → k < l.m → MachineIn (table_config l.t) k l.t
