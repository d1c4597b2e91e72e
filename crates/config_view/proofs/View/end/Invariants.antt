-- What the loop of `config_view::View::end` keeps. Assumes nothing.
use mathlib.Core.Path.{◌≡◌}
use Rattle.config_view.specs.View.{place}
use Rattle.config_view.proofs.View.end.Given as goal

abbrev pub invariant-loop-m : goal.invariant-loop-m
invariant-loop-m l = l.at ≡ place l.self l.m
