-- What the loop of `call_bytes::framing_of` keeps, and why it ends. Assumes nothing.
use Prim.Native.Nat.{◌-◌}
use lib.ListN.{length}
use Rattle.call_bytes.proofs.Laws.{Walked}
use Rattle.call_bytes.proofs.framing_of.Given as goal

abbrev pub invariant-loop-p : goal.invariant-loop-p
invariant-loop-p l = Walked l.bytes l.n l.p

abbrev pub decreases-loop-p : goal.decreases-loop-p
decreases-loop-p l = length l.bytes - l.p
