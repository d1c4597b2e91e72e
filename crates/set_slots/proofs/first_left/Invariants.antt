-- What the loop of `set_slots::first_left` keeps. Assumes nothing.
use Prim.Native.Nat.{ℕ, ◌≤◌, ◌<◌}
use Rattle.set_slots.specs.Slots.{Empty}
use Rattle.set_slots.proofs.first_left.Given as goal

abbrev pub invariant-loop-i : goal.invariant-loop-i
invariant-loop-i l = (k : ℕ) → l.n ≤ k → k < l.i → Empty l.z l.at k
