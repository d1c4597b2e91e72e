-- What the loop of `config_singles::numbers` keeps. Assumes nothing.
use mathlib.Core.Path.{◌≡◌}
use Rattle.base.specs.Search.{Everywhere}
use Rattle.config_model.specs.Rules.{Differ}
use Rattle.config_view.specs.View.{viewed, place}
use Rattle.config_singles.proofs.numbers.Given as goal

abbrev pub invariant-loop-m : goal.invariant-loop-m
invariant-loop-m l = (l.at ≡ place l.v l.m) × Everywhere (Differ (viewed l.v)) (λ k. (viewed l.v).machines) l.m
