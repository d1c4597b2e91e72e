-- `config_pairs::find` meets its contract. Assumes nothing.
use Rattle.config_view.proofs.Rows.{rows_more}
use Rattle.config_pairs.proofs.find.Goals as goal

pub loop-m2-preserved : goal.loop-m2-preserved
loop-m2-preserved c = rows_more c.loop-m2.invariant c.in_default.ensures c.next-at.ensures
