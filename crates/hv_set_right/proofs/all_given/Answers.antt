-- `hv_set_right::all_given` meets its contract. Assumes nothing.
use borrow.Author.Count.{below_more}
use Rattle.config_view.specs.Table.{table_config}
use Rattle.hv_set_right.specs.Right.{IsGiven}
use Rattle.hv_set_right.proofs.Laws.{given_yes, given_no}
use Rattle.hv_set_right.proofs.all_given.Goals as goal

pub returns-in-Ok-None : goal.returns-in-Ok-None
returns-in-Ok-None c = λ f. given_no (table_config c.args.table.now) c.args.m c.get-r.ensures (rw c.in-Ok-None.field-0-is at c.in-Ok-None.ensures).2 (f c.loop-i.i c.loop-i-test.true)

pub loop-i-preserved : goal.loop-i-preserved
loop-i-preserved c = below_more (IsGiven (table_config c.args.table.now) c.args.m c.args.zones.now c.args.at) c.loop-i.i c.loop-i.invariant (given_yes _ _ _ c.get-r.ensures (rw c.in-Ok-Some.field-0-is at c.in-Ok-Some.ensures).1.is)
