-- What the loop of `list_undo::copy` keeps. Assumes nothing.
use Rattle.std.specs.List.{SameBelow}
use Rattle.list_undo.proofs.copy.Given as goal

abbrev pub invariant-loop-i : goal.invariant-loop-i
invariant-loop-i g l = SameBelow l.from l.to l.i
