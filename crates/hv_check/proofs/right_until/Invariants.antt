-- What the loop of `hv_check::right_until` keeps: every frame so far is right. Assumes nothing.
use Rattle.base.specs.Search.{Stops}
use Rattle.owners.specs.States.{state}
use Rattle.hv_state.specs.Memory.{present_in}
use Rattle.hv_check.specs.Checking.{FrameRight}
use Rattle.hv_check.proofs.right_until.Given as goal

abbrev pub invariant-loop-k : goal.invariant-loop-k
invariant-loop-k l = Stops (λ j. FrameRight (present_in l.zones l.n) (state l.tree l.owners j)) 0 l.k l.k
