-- What the loop of `call_bytes::list_shape` keeps. Assumes nothing.
use Prim.Native.Nat.{ℕ, ◌<◌}
use Rattle.call_bytes.specs.Calls.{Member}
use Rattle.call_bytes.proofs.list_shape.Given as goal

abbrev pub invariant-loop-i : goal.invariant-loop-i
invariant-loop-i l = (j : ℕ) → j < l.i → Member l.bytes l.from l.len j
