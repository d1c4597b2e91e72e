-- The view of a tree as that of nested trees. Assumes nothing.
use mathlib.Core.Path.{◌≡◌, refl, sym, ◌∙◌, ap, ap₂}
use mathlib.Core.Bool.{false}
use mathlib.Core.List.{List}
use Prim.Native.Nat.{ℕ, zero, suc, ◌+◌, ◌-◌, ◌*◌, ◌/◌, ◌%◌, ◌^◌, ◌≤◌, ◌<◌}
use native.Mathlib.Nat.{add-mul, mul_left_comm, mul-one, zero-mul, pow-succ', div-add-mod', mod-lt, mod-eq_of_lt, div-eq_of_lt, mul-add-div, mul-add-mod_self_left}
use native.Mathlib.Omega.{arith}
use lib.Dec.{eqb}
use lib.ListN.{length, get_or}
use Rattle.bits16.specs.Bits.{bit}
use Rattle.bitmap_tree.specs.Tree.{node_bit, cap}
use Rattle.bitmap_tree.proofs.Fullness.{level_exists}
use Rattle.original.specs.Terms.{Sequence, view, Equal, nested, ViewIndexMapping}

-- The view of a tree has those of the sixteen trees below it as its parts.
pub nested_mapping : (t : List ℕ) (h n i : ℕ) → ViewIndexMapping (nested t (suc h) n) i (nested t h (16 * n + 1 + i)) (16 ^ suc h)
nested_mapping t h n i j l =
    let d : (16 ^ suc h * i + j) / 16 ^ suc h ≡ i = mul-add-div (omega arith) i j ∙ let z : j / 16 ^ suc h ≡ 0 = div-eq_of_lt l in omega arith in
    let m : (16 ^ suc h * i + j) % 16 ^ suc h ≡ j = mul-add-mod_self_left (16 ^ suc h) i j ∙ mod-eq_of_lt l in
    ap₂ (λ (x y : ℕ). (nested t h (16 * n + 1 + x)).place y) d m

-- A range that is taken in a part is taken in the whole.
pub mapped_taken : (ba : Sequence) (i : ℕ) (sub : Sequence) (cap start end : ℕ) → ViewIndexMapping ba i sub cap → end ≤ cap → ((j : ℕ) → start ≤ j → j < end → sub.place j ≡ false)
    → (k : ℕ) → cap * i + start ≤ k → k < cap * i + end → ba.place k ≡ false
mapped_taken ba i sub cap start end m l f k lo hi =
    let e : cap * i + (k - cap * i) ≡ k = omega arith in
    ap ba.place (sym e) ∙ m (k - cap * i) (omega arith) ∙ f (k - cap * i) (omega arith) (omega arith)

-- the word of a place, from that of the place in the part: Q words of frames are under each tree below, and P under this one
word_of_lem : (Q P k n q r s s' : ℕ) → P ≡ 16 * Q → q * P + r ≡ k → 15 * s + 1 ≡ P → 15 * s' + 1 ≡ Q → (16 * n + 1 + q) * Q + s' + r / 16 ≡ n * P + s + k / 16
word_of_lem Q P k n q r s s' e f g h =
    let a : (16 * n + 1 + q) * Q ≡ (16 * n + 1) * Q + q * Q = add-mul (16 * n + 1) q Q in
    let b : (16 * n + 1) * Q ≡ 16 * n * Q + 1 * Q = add-mul (16 * n) 1 Q in
    let c : n * P ≡ 16 * (n * Q) = ap (λ (x : ℕ). n * x) e ∙ mul_left_comm n 16 Q in
    let d : q * P ≡ 16 * (q * Q) = ap (λ (x : ℕ). q * x) e ∙ mul_left_comm q 16 Q in
    omega arith

-- a place of a nested view is a bit of a word, where s words make a full tree of h levels
place_of : (t : List ℕ) (h n k s : ℕ) → k < 16 ^ suc h → 15 * s + 1 ≡ 16 ^ h → (nested t h n).place k ≡ eqb (bit (get_or t (n * 16 ^ h + s + k / 16) 0) (k % 16)) 1
place_of t zero n k s l e =
    let w : n ≡ n * 16 ^ 0 + s + k / 16 = let x = mul-one n in omega arith in
    let m : k ≡ k % 16 = omega arith in
    ap₂ (λ (x y : ℕ). eqb (bit (get_or t x 0) y) 1) w m
place_of t (suc h) n k s l e =
    let r = level_exists h in
    let p : 16 ^ suc h ≡ 16 * 16 ^ h = pow-succ' 16 h in
    let d : k / 16 ^ suc h * 16 ^ suc h + k % 16 ^ suc h ≡ k = div-add-mod' k (16 ^ suc h) in
    let c : k / 16 ^ suc h * 16 ^ suc h ≡ 16 * (k / 16 ^ suc h * 16 ^ h) = ap (λ (x : ℕ). k / 16 ^ suc h * x) p ∙ mul_left_comm (k / 16 ^ suc h) 16 (16 ^ h) in
    let w = word_of_lem (16 ^ h) (16 ^ suc h) k n (k / 16 ^ suc h) (k % 16 ^ suc h) s r.0 p d e r.1 in
    let m : k % 16 ^ suc h % 16 ≡ k % 16 = omega arith in
    place_of t h (16 * n + 1 + k / 16 ^ suc h) (k % 16 ^ suc h) r.0 (mod-lt k (omega arith)) r.1 ∙ ap₂ (λ (x y : ℕ). eqb (bit (get_or t x 0) y) 1) w m

-- how long a nested view is
nested_long : (t : List ℕ) (h n : ℕ) → (nested t h n).len ≡ 16 ^ suc h
nested_long t zero n = refl
nested_long t (suc h) n = let p : 16 ^ suc (suc h) ≡ 16 * 16 ^ suc h = pow-succ' 16 (suc h) in omega arith

-- The view of a tree of 16^(h + 1) frames is that of the nested trees.
pub view_nested : (t : List ℕ) (h : ℕ) → cap t ≡ 16 ^ suc h → Equal (view t) (nested t h 0)
unfolding node_bit
view_nested t h e = record { long = e ∙ sym (nested_long t h 0); alike = λ k l. alike k (rw (nested_long t h 0) at l) }
  where
    alike : (k : ℕ) → k < 16 ^ suc h → (view t).place k ≡ (nested t h 0).place k
    alike k l =
        let r = level_exists h in
        let c : 15 * r.0 + 1 ≡ 16 ^ h = r.1 in
        let p : 16 ^ suc h ≡ 16 * 16 ^ h = pow-succ' 16 h in
        let z : 0 * 16 ^ h ≡ 0 = zero-mul (16 ^ h) in
        let w : (length t + k - 1) / 16 ≡ 0 * 16 ^ h + r.0 + k / 16 = omega arith in
        let m : (length t + k - 1) % 16 ≡ k % 16 = omega arith in
        ap₂ (λ (x y : ℕ). eqb (bit (get_or t x 0) y) 1) w m ∙ sym (place_of t h 0 k r.0 l r.1)
