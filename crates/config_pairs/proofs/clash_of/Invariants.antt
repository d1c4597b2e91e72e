-- What the loop of `config_pairs::clash_of` keeps. Assumes nothing.
use Rattle.config_model.specs.Rules.{WithAll}
use Rattle.config_view.specs.View.{viewed}
use Rattle.config_view.proofs.Rows.{Rows}
use Rattle.config_pairs.specs.Pairs.{Holds}
use Rattle.config_pairs.proofs.clash_of.Given as goal

abbrev pub invariant-loop-m : goal.invariant-loop-m
invariant-loop-m l = Rows l.v (WithAll (Holds l.rule) (viewed l.v)) l.m l.at
