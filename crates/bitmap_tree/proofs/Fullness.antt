-- The laws of full trees. Assumes nothing.
use mathlib.Core.Path.{◌≡◌, refl, ap, ◌∙◌}
use Prim.Native.Nat.{ℕ, zero, suc, ◌+◌, ◌-◌, ◌*◌, ◌/◌, ◌^◌, ◌≤◌, ◌<◌}
use native.Mathlib.Nat.{pow-succ', pow-le-pow_right}
use native.Mathlib.Numerals.{add-one}
use native.Mathlib.Omega.{arith}
use lib.Dec.{lit<}
use Rattle.bitmap_tree.specs.Tree.{Full}

-- s words that make a full tree, and a tree with one more word above sixteen such
pub level_next : (s d : ℕ) → 15 * s + 1 ≡ 16 ^ d → 15 * (16 * s + 1) + 1 ≡ 16 ^ (d + 1)
level_next s d e = let q : 16 ^ (d + 1) ≡ 16 * 16 ^ d = rw (add-one d) (pow-succ' 16 d) in omega arith

-- powers of 16 grow
pub pow_le : (d e : ℕ) → d ≤ e → 16 ^ d ≤ 16 ^ e
pow_le d e h = pow-le-pow_right (lit< tt) h

-- a full tree has a word, and so few that no number of the code wraps
pub full_bound : (w : ℕ) → Full w → (0 < w) × (w < 2 ^ 57)
full_bound w f =
    let l = f.few in
    let a = pow_le f.depth 15 (omega arith) in
    let b = pow_le 1 f.depth f.some in
    let e = f.count in
    omega arith

-- for every power there is a number of words
pub level_exists : (d : ℕ) → (w : ℕ) × (15 * w + 1 ≡ 16 ^ d)
level_exists zero = (0, refl)
level_exists (suc d) =
    let r = level_exists d in
    (16 * r.0 + 1, level_next r.0 d r.1 ∙ ap (λ (x : ℕ). 16 ^ x) (add-one d))

-- for every power from 1 to 15 there is a full tree of so many frames
pub full_exists : (d : ℕ) → 0 < d → d ≤ 15 → (w : ℕ) × Full w × (15 * w + 1 ≡ 16 ^ d)
full_exists d p l = let r = level_exists d in (r.0, record { depth = d; some = p; few = omega arith; count = r.1 }, r.1)

-- the words above the frames, and the one at the root: the frames begin at the first bit of a word
pub full_whole : (w : ℕ) → Full w → w ≡ 16 * ((w - 1) / 16) + 1
full_whole w f = go f.depth f.some f.count
  where
    whole : (y : ℕ) → w ≡ 16 * y + 1 → w ≡ 16 * ((w - 1) / 16) + 1
    whole y e = let q : (w - 1) / 16 ≡ y = omega arith in omega arith

    go : (d : ℕ) → 0 < d → 15 * w + 1 ≡ 16 ^ d → w ≡ 16 * ((w - 1) / 16) + 1
    go zero p c = omega arith
    go (suc d) p c =
        let q : 16 ^ suc d ≡ 16 * 16 ^ d = pow-succ' 16 d in
        let some = full_bound w f in
        whole (w - 16 ^ d) (omega arith)
