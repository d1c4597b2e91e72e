-- What the loop of `hv_check::judge_all` keeps: the words of every machine so far are right. Assumes nothing.
use Rattle.std.proofs.Common.{ℕ, ◌<◌}
use Rattle.config_view.specs.Table.{table_config}
use Rattle.hv_check.specs.Checking.{MachineRight}
use Rattle.hv_check.proofs.judge_all.Given as goal

abbrev pub invariant-loop-m : goal.invariant-loop-m
invariant-loop-m l = (k : ℕ) → k < l.m → MachineRight (table_config l.table) l.zones l.slots k
