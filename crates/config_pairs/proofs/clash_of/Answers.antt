-- `config_pairs::clash_of` meets its contract. Assumes nothing.
use Rattle.config_view.proofs.Rows.{rows_more}
use Rattle.config_pairs.proofs.clash_of.Goals as goal

pub loop-m-preserved : goal.loop-m-preserved
loop-m-preserved c = rows_more c.loop-m.invariant c.in_default.ensures c.next-at.ensures
