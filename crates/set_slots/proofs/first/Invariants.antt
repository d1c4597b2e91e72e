-- What the loop of `set_slots::first` keeps. Assumes nothing.
use mathlib.Core.Bool.{false}
use Prim.Native.Nat.{ℕ, ◌<◌}
use Rattle.set_slots.specs.Slots.{slot}
use Rattle.set_slots.proofs.first.Given as goal

abbrev pub invariant-loop-i : goal.invariant-loop-i
invariant-loop-i g l = (k : ℕ) → k < l.i → goal.F-post g l.test (slot l.z l.at k) false
