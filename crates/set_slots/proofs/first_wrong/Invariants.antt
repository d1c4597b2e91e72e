-- What the loop of `set_slots::first_wrong` keeps. Assumes nothing.
use Prim.Native.Nat.{ℕ, ◌≤◌, ◌<◌}
use Rattle.set_slots.specs.Slots.{UsedOk}
use Rattle.set_slots.proofs.first_wrong.Given as goal

abbrev pub invariant-loop-i : goal.invariant-loop-i
invariant-loop-i l = (k : ℕ) → 0 ≤ k → k < l.i → UsedOk l.z l.at k
