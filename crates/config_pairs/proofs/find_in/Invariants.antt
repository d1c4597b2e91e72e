-- What the loop of `config_pairs::find_in` keeps. Assumes nothing.
use Prim.Native.Nat.{ℕ, ◌<◌}
use Rattle.config_view.specs.View.{viewed}
use Rattle.config_pairs.specs.Pairs.{Holds}
use Rattle.config_pairs.proofs.find_in.Given as goal

abbrev pub invariant-loop-i2 : goal.invariant-loop-i2
invariant-loop-i2 l = (k : ℕ) → k < l.i2 → Holds l.rule l.m l.i l.a l.m2 k ((viewed l.v).region l.m2 k)
