-- What the loop of `config_singles::refused_of` keeps. Assumes nothing.
use Rattle.config_view.specs.View.{viewed}
use Rattle.config_view.proofs.Rows.{Rows}
use Rattle.config_singles.specs.Singles.{Accepts}
use Rattle.config_singles.proofs.refused_of.Given as goal

abbrev pub invariant-loop-m : goal.invariant-loop-m
invariant-loop-m g l = Rows l.v (Accepts (goal.F-post g l.test) (viewed l.v)) l.m l.at
