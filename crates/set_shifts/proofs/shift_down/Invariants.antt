-- What the loop of `set_shifts::shift_down` keeps. Assumes nothing.
use Rattle.set_shifts.specs.Shifts.{ShiftedDown}
use Rattle.set_shifts.proofs.shift_down.Given as goal

abbrev pub invariant-loop-i : goal.invariant-loop-i
invariant-loop-i l = ShiftedDown l.initial.z l.at l.p l.i l.z
