-- What the loop of `config_pairs::clash_in` keeps. Assumes nothing.
use Prim.Native.Nat.{ℕ, ◌<◌}
use Rattle.config_model.specs.Rules.{WithAll}
use Rattle.config_view.specs.View.{viewed}
use Rattle.config_pairs.specs.Pairs.{Holds}
use Rattle.config_pairs.proofs.clash_in.Given as goal

abbrev pub invariant-loop-i : goal.invariant-loop-i
invariant-loop-i l = (k : ℕ) → k < l.i → WithAll (Holds l.rule) (viewed l.v) l.m k
