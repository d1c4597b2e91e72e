-- What the loop of `bitmap_tree::is_full` keeps: s words make a tree of 16 ^ depth frames, and no smaller power is that of w. Assumes nothing.
use mathlib.Core.Path.{◌≡◌}
use Prim.Native.Nat.{ℕ, ◌+◌, ◌*◌, ◌^◌, ◌<◌}
use Rattle.bitmap_tree.proofs.is_full.Given as goal

abbrev pub invariant-loop-depth : goal.invariant-loop-depth
invariant-loop-depth l = (15 * l.s + 1 ≡ 16 ^ l._depth) × ((e : ℕ) → e < l._depth + 1 → 0 < e → 15 * l.w + 1 ≡ 16 ^ e → ⊥)
