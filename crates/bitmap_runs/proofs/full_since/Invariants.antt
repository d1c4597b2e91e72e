-- What the loop of `bitmap_runs::full_since` keeps: every word passed is full. Assumes nothing.
use mathlib.Core.Path.{◌≡◌}
use Prim.Native.Nat.{ℕ, ◌≤◌, ◌<◌}
use lib.ListN.{get_or}
use Rattle.bitmap_runs.proofs.full_since.Given as goal

abbrev pub invariant-loop-n : goal.invariant-loop-n
invariant-loop-n l = (l.p ≤ l.n) × ((k : ℕ) → l.n ≤ k → k < l.q → get_or l.tree k 0 ≡ 65535)
