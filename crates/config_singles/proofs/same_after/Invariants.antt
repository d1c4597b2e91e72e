-- What the loop of `config_singles::same_after` keeps. Assumes nothing.
use mathlib.Core.Path.{◌≡◌}
use Prim.Native.Nat.{ℕ, ◌<◌}
use Rattle.config_model.specs.Rules.{Differ}
use Rattle.config_view.specs.View.{viewed, place}
use Rattle.config_singles.proofs.same_after.Given as goal

abbrev pub invariant-loop-m2 : goal.invariant-loop-m2
invariant-loop-m2 l = (l.to ≡ place l.v l.m2) × ((k : ℕ) → k < l.m2 → Differ (viewed l.v) l.m k)
