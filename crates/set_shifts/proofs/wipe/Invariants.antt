-- What the loop of `set_shifts::wipe` keeps. Assumes nothing.
use Rattle.set_shifts.specs.Shifts.{Wiped}
use Rattle.set_shifts.proofs.wipe.Given as goal

abbrev pub invariant-loop-i : goal.invariant-loop-i
invariant-loop-i l = Wiped l.initial.z l.at l.i l.z
