-- What the loop of `config_singles::refused_in` keeps. Assumes nothing.
use Prim.Native.Nat.{ℕ, ◌<◌}
use Rattle.config_view.specs.View.{viewed}
use Rattle.config_singles.specs.Singles.{Accepts}
use Rattle.config_singles.proofs.refused_in.Given as goal

abbrev pub invariant-loop-i : goal.invariant-loop-i
invariant-loop-i g l = (k : ℕ) → k < l.i → Accepts (goal.F-post g l.test) (viewed l.v) l.m k
