-- What the loop of `start_sizes::first_crowded` keeps. Assumes nothing.
use mathlib.Core.Path.{◌≡◌}
use Prim.Native.Nat.{ℕ, ◌≤◌, ◌<◌}
use Rattle.config_view.specs.View.{viewed, place}
use Rattle.start_sizes.proofs.first_crowded.Given as goal

abbrev pub invariant-loop-m : goal.invariant-loop-m
invariant-loop-m l = (l.at ≡ place l.v l.m) × ((k : ℕ) → k < l.m → (viewed l.v).count k ≤ l.slots)
