-- What the loop of `bitmap_tree::summary` keeps. Assumes nothing.
use mathlib.Core.Path.{◌≡◌}
use Prim.Native.Nat.{ℕ, ◌+◌, ◌*◌, ◌^◌, ◌<◌, min}
use lib.ListN.{get_or}
use Rattle.bits16.specs.Bits.{bit}
use Rattle.bitmap_tree.proofs.summary.Given as goal

abbrev pub invariant-loop-i : goal.invariant-loop-i
invariant-loop-i l = (l.r < 2 ^ l.i) × ((k : ℕ) → k < l.i → bit l.r k ≡ min 1 (get_or l.tree (16 * l.p + 1 + k) 0))
