-- The laws of `how_many`. Assumes nothing.
use mathlib.Core.Path.{◌≡◌, refl, ap, ap₂, ◌∙◌}
use Prim.Native.Nat.{ℕ, zero, suc, ◌+◌, ◌-◌, ◌*◌, ◌≤◌, ◌<◌}
use native.Mathlib.Nat.{suc-mul}
use native.Mathlib.Omega.{arith}
use Rattle.base.specs.Ranges.{Outside, how_many}

-- the numbers below n counted from the first one on
pub many_first : (f : ℕ → ℕ) (n : ℕ) → how_many f (suc n) ≡ f 0 + how_many (λ k. f (suc k)) n
unfolding how_many
many_first f zero = omega arith
many_first f (suc n) = let e = many_first f n in let g : how_many f (suc n) ≡ how_many f n + f n = refl in omega arith

-- equal functions have equal counts
pub many_same : (f g : ℕ → ℕ) (n : ℕ) → ((k : ℕ) → k < n → f k ≡ g k) → how_many f n ≡ how_many g n
unfolding how_many
many_same f g zero h = refl
many_same f g (suc n) h = ap₂ ◌+◌ (many_same f g n (λ k l. h k (omega arith))) (h n (omega arith))

-- the numbers from m on, after those below m
pub many_add : (f : ℕ → ℕ) (m n : ℕ) → how_many f (m + n) ≡ how_many f m + how_many (λ k. f (m + k)) n
unfolding how_many
many_add f m zero = let e : m + 0 ≡ m = omega arith in rw e (omega arith)
many_add f m (suc n) =
    let e : m + suc n ≡ suc (m + n) = omega arith in
    let r = many_add f m n in rw e (omega arith)

-- where f is v everywhere below n
pub many_const : (f : ℕ → ℕ) (v n : ℕ) → ((k : ℕ) → k < n → f k ≡ v) → how_many f n ≡ n * v
unfolding how_many
many_const f v zero h = omega arith
many_const f v (suc n) h =
    let r = many_const f v n (λ k l. h k (omega arith)) in
    let e = h n (omega arith) in
    let m : suc n * v ≡ n * v + v = suc-mul n v in omega arith

-- the numbers below a, those from a up to b, and the rest
three : (f : ℕ → ℕ) (a d e : ℕ) → how_many f (a + (d + e)) ≡ how_many f a + (how_many (λ k. f (a + k)) d + how_many (λ k. f (a + (d + k))) e)
three f a d e = many_add f a (d + e) ∙ ap (λ (x : ℕ). how_many f a + x) (many_add (λ k. f (a + k)) d e)

-- where the numbers from a up to b change from u to v, and no other, the count changes by as much
pub many_change : (f g : ℕ → ℕ) (a b n u v : ℕ) → a ≤ b → b ≤ n → ((k : ℕ) → a ≤ k → k < b → f k ≡ u) → ((k : ℕ) → a ≤ k → k < b → g k ≡ v)
    → ((k : ℕ) → Outside a b k → g k ≡ f k) → how_many g n + (b - a) * u ≡ how_many f n + (b - a) * v
many_change f g a b n u v l h was is others =
    let split : n ≡ a + ((b - a) + (n - b)) = omega arith in
    let x = ap (how_many f) split ∙ three f a (b - a) (n - b) in
    let y = ap (how_many g) split ∙ three g a (b - a) (n - b) in
    let low = many_same g f a (λ k q. others k (λ p r. omega arith)) in
    let high = many_same (λ k. g (a + ((b - a) + k))) (λ k. f (a + ((b - a) + k))) (n - b) (λ k q. others (a + ((b - a) + k)) (λ p r. omega arith)) in
    let old = many_const (λ k. f (a + k)) u (b - a) (λ k q. was (a + k) (omega arith) (omega arith)) in
    let new = many_const (λ k. g (a + k)) v (b - a) (λ k q. is (a + k) (omega arith) (omega arith)) in
    omega arith

-- where f is 0 or 1 the count is at most n
pub many_le : (f : ℕ → ℕ) (n : ℕ) → ((k : ℕ) → f k < 2) → how_many f n ≤ n
unfolding how_many
many_le f zero h = omega arith
many_le f (suc n) h = let r = many_le f n h in let b = h n in omega arith

-- no number is below 0
pub many_none : (f : ℕ → ℕ) → how_many f 0 ≡ 0
unfolding how_many
many_none f = refl
