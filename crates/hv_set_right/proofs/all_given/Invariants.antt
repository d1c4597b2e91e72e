-- What the loop of `hv_set_right::all_given` keeps: every region so far is given. Assumes nothing.
use Rattle.std.proofs.Common.{ℕ, ◌<◌}
use Rattle.config_view.specs.Table.{table_config}
use Rattle.hv_set_right.specs.Right.{IsGiven}
use Rattle.hv_set_right.proofs.all_given.Given as goal

abbrev pub invariant-loop-i : goal.invariant-loop-i
invariant-loop-i l = (k : ℕ) → k < l.i → IsGiven (table_config l.table) l.m l.zones l.at k
