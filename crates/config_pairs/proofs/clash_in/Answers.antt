-- `config_pairs::clash_in` meets its contract. Assumes nothing.
use borrow.Author.Count.{below_more}
use Rattle.config_model.specs.Rules.{WithAll}
use Rattle.config_view.specs.View.{viewed}
use Rattle.config_pairs.specs.Pairs.{Holds}
use Rattle.config_pairs.proofs.clash_in.Goals as goal

pub loop-i-preserved : goal.loop-i-preserved
loop-i-preserved c = below_more (WithAll (Holds c.args.rule) (viewed c.args.v.now) c.args.m) c.loop-i.i c.loop-i.invariant (rw c.region.ensures at c.in_default.ensures)
