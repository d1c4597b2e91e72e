-- What the loop of `set_shifts::shift_up` keeps. Assumes nothing.
use Prim.Native.Nat.{◌≤◌}
use Rattle.set_shifts.specs.Shifts.{ShiftedUp}
use Rattle.set_shifts.proofs.shift_up.Given as goal

abbrev pub invariant-loop-i : goal.invariant-loop-i
invariant-loop-i l = (l.p ≤ l.i) × ShiftedUp l.initial.z l.at l.i l.n l.z
