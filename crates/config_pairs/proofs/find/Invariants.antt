-- What the loop of `config_pairs::find` keeps. Assumes nothing.
use Rattle.config_view.specs.View.{viewed}
use Rattle.config_view.proofs.Rows.{Rows}
use Rattle.config_pairs.specs.Pairs.{Holds}
use Rattle.config_pairs.proofs.find.Given as goal

abbrev pub invariant-loop-m2 : goal.invariant-loop-m2
invariant-loop-m2 l = Rows l.v (λ m2 i2. Holds l.rule l.m l.i l.a m2 i2 ((viewed l.v).region m2 i2)) l.m2 l.at
