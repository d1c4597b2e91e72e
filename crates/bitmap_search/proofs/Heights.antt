-- The laws of what stands above a frame. Assumes nothing.
use mathlib.Core.Path.{◌≡◌, refl, ap, ◌∙◌}
use mathlib.Core.List.{List}
use Prim.Native.Nat.{ℕ, zero, suc, ◌+◌, ◌-◌, ◌*◌, ◌/◌, ◌^◌, ◌≤◌, ◌<◌}
use native.Mathlib.Nat.{add-zero}
use native.Mathlib.Omega.{arith}
use lib.ListN.{length}
use Rattle.bitmap_tree.specs.Tree.{node_bit, Full, Agree}
use Rattle.bitmap_tree.proofs.Nodes.{parent_some, some_min}
use Rattle.bitmap_tree.proofs.Fullness.{level_next, pow_le}
use Rattle.bitmap_search.specs.Heights.{up, Height}

pub up_le : (h m : ℕ) → up h m ≤ m
unfolding up
up_le zero m = omega arith
up_le (suc h) m = let e = up_le h m in omega arith

-- where the summaries agree, what stands above a set node is set
pub up_set : (t : List ℕ) (m h : ℕ) → Agree t → m ≤ 16 * length t → node_bit t m ≡ 1 → 0 < up h m → node_bit t (up h m) ≡ 1
unfolding up Agree
up_set t m zero a l s p = s
up_set t m (suc h) a l s p =
    let e = up_le h m in
    let ih = up_set t m h a l s (omega arith) in
    a ((up h m - 1) / 16) p (omega arith) ∙ some_min _ (parent_some t (up h m) ih)

-- one height less is one depth more
pub deeper : (d h : ℕ) → 16 ^ (d + suc h) ≡ 16 ^ (d + 1 + h)
deeper d h = ap (λ (x : ℕ). 16 ^ x) (let z : d + suc h ≡ d + 1 + h = omega arith in z)

-- what stands above the frames at one height is one row of nodes
pub up_row : (w f e h m : ℕ) → 15 * f + 1 ≡ 16 ^ e → 15 * w + 1 ≡ 16 ^ (e + h) → w ≤ m → m ≤ 16 * w → (f ≤ up h m) × (up h m ≤ 16 * f)
unfolding up
up_row w f e zero m c a l u = let q : 16 ^ (e + 0) ≡ 16 ^ e = ap (λ (x : ℕ). 16 ^ x) (add-zero e) in omega arith
up_row w f e (suc h) m c a l u = let ih = up_row w (16 * f + 1) (e + 1) h m (level_next f e c) (a ∙ deeper e h) l u in omega arith

-- a node past the words is a frame
pub at_bottom : (w n h : ℕ) → Height w n h → w ≤ n → h ≡ 0
at_bottom w n zero a l = refl
at_bottom w n (suc h) a l =
    let b = pow_le (a.depth + 1) (a.depth + suc h) (omega arith) in
    let c = level_next a.first a.depth a.count in
    let v = a.whole in
    let u = a.high in
    absurd (omega arith)

-- a word stands above the frames
pub not_bottom : (w n : ℕ) → Height w n 0 → n < w → ⊥
not_bottom w n a l =
    let q : 16 ^ (a.depth + 0) ≡ 16 ^ a.depth = ap (λ (x : ℕ). 16 ^ x) (add-zero a.depth) in
    let c = a.count in
    let v = a.whole in
    let b = a.low in
    omega arith

-- the children of a node are one lower
pub child_height : (w n h i : ℕ) → i < 16 → Height w n (suc h) → Height w (16 * n + 1 + i) h
child_height w n h i some a =
    let b = a.low in
    let u = a.high in
    record {
      first = 16 * a.first + 1;
      depth = a.depth + 1;
      count = level_next a.first a.depth a.count;
      whole = a.whole ∙ deeper a.depth h;
      low = omega arith;
      high = omega arith;
    }

-- the root of a full tree
pub root_height : (w : ℕ) (f : Full w) → Height w 0 f.depth
root_height w f = record {
  first = 0;
  depth = 0;
  count = refl;
  whole = f.count ∙ ap (λ (x : ℕ). 16 ^ x) (let z : f.depth ≡ 0 + f.depth = omega arith in z);
  low = omega arith;
  high = omega arith;
}
