-- What the loop of `bits16::runs_of` keeps, and why it ends. Assumes nothing.
use Prim.Native.Nat.{◌-◌, ◌≤◌, ◌<◌}
use Rattle.bits16.specs.Runs.{RunsOf}
use Rattle.bits16.proofs.runs_of.Given as goal

abbrev pub invariant-loop-k : goal.invariant-loop-k
invariant-loop-k l = (0 < l.k) × (l.k ≤ l.n) × RunsOf l.x l.k l.m

abbrev pub decreases-loop-k : goal.decreases-loop-k
decreases-loop-k l = l.n - l.k
