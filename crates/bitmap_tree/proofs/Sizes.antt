-- What the contracts assume of a tree is met at every size. Assumes nothing.
use mathlib.Core.Path.{◌≡◌, sym, ap, ◌∙◌}
use mathlib.Core.List.{List}
use Prim.Native.Nat.{ℕ, ◌-◌, ◌/◌, ◌^◌, ◌≤◌, ◌<◌, min}
use lib.ListN.{length, replicate, length-replicate}
use Rattle.base.proofs.Ranges.{zero_word}
use Rattle.bitmap_tree.specs.Tree.{cap, Full, Agree}
use Rattle.bitmap_tree.proofs.Nodes.{parent_none}
use Rattle.bitmap_tree.proofs.Fullness.{full_exists}

-- the summaries of a tree of zeros agree
pub zeros_agree : (w : ℕ) → Agree (replicate w 0)
unfolding Agree
zeros_agree w n q h = parent_none (replicate w 0) n (zero_word w ((n - 1) / 16)) ∙ ap (λ (x : ℕ). min 1 x) (sym (zero_word w n))

-- for every size there is a tree whose summaries agree
pub every_size : (d : ℕ) → 0 < d → d ≤ 15 → (t : List ℕ) × Full (length t) × (cap t ≡ 16 ^ d) × Agree t
every_size d p l =
    let f = full_exists d p l in
    let long = length-replicate {A = ℕ} f.0 0 in
    (replicate f.0 0, rw long f.1, rw long f.2, zeros_agree f.0)
