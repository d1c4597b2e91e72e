-- The bits of `|`, of `^` and of a mask, and what `fill` makes of a word by them. Assumes nothing.
use mathlib.Core.Path.{◌≡◌, refl, sym, ap, ap₂, ◌∙◌}
use Prim.Native.Nat.{ℕ, zero, suc, ◌+◌, ◌-◌, ◌*◌, ◌/◌, ◌%◌, ◌^◌, ◌≤◌, ◌<◌, max}
use native.Mathlib.Nat.{pow-succ', one-mul, max-zero}
use native.Mathlib.Numerals.{add-one}
use native.Mathlib.Omega.{arith}
use lib.Pow.{pow_pos, pow_mono, shl_exact}
use lib.Dec.{lit<}
use lib.Bits.{bit_or, bit_xor, differ, or_shr, xor_shr, or_step, xor_step, or_lt, xor_lt}
use Rattle.base.specs.Ranges.{Outside}
use Rattle.bits16.specs.Bits.{bit, Filled}
use Rattle.bits16.proofs.Laws.{bit_zero, bit_suc, bit_of_zero}

-- ---- the bits of `|` and of `^`

-- a bit of `|` is set where one of the two is
bit_or_lem : (a b k : ℕ) → bit (bit_or a b) k ≡ max (bit a k) (bit b k)
bit_or_lem a b k = ap (λ (x : ℕ). x % 2) (or_shr a b k) ∙ low (a / 2 ^ k) (b / 2 ^ k)
  where
    low : (x y : ℕ) → bit_or x y % 2 ≡ max (x % 2) (y % 2)
    low x y = let e = or_step x y in omega arith

-- whether two bits differ is a bit
differ_lt : (x y : ℕ) → x < 2 → y < 2 → differ x y < 2
differ_lt zero y p q = q
differ_lt (suc zero) zero p q = omega arith
differ_lt (suc zero) (suc y) p q = omega arith
differ_lt (suc (suc x)) y p q = omega arith

-- a bit differs from 0 as it is
differ_zero : (x : ℕ) → x < 2 → differ x 0 ≡ x
differ_zero zero h = refl
differ_zero (suc zero) h = refl
differ_zero (suc (suc x)) h = omega arith

-- a bit of `^` is set where the two differ
bit_xor_lem : (a b k : ℕ) → bit (bit_xor a b) k ≡ differ (bit a k) (bit b k)
bit_xor_lem a b k = ap (λ (x : ℕ). x % 2) (xor_shr a b k) ∙ low (a / 2 ^ k) (b / 2 ^ k)
  where
    low : (x y : ℕ) → bit_xor x y % 2 ≡ differ (x % 2) (y % 2)
    low x y = let e = xor_step x y in let d = differ_lt (x % 2) (y % 2) (omega arith) (omega arith) in omega arith

-- ---- masks

-- 1 shifted up by at most 16 fits 32 bits
pub one_shl : (i : ℕ) → i ≤ 16 → (1 * 2 ^ i) % 4294967296 ≡ 2 ^ i
one_shl i h = shl_exact {a = 1} 1 i 32 (lit< tt) (omega arith) ∙ one-mul (2 ^ i)

-- every bit but the lowest of the mask of the places below e + 1 is one of the mask of those below e
low_suc : (e k : ℕ) → bit (2 ^ suc e - 1) (suc k) ≡ bit (2 ^ e - 1) k
low_suc e k = bit_suc (2 ^ suc e - 1) k ∙ ap (λ (x : ℕ). bit x k) half
  where
    half : (2 ^ suc e - 1) / 2 ≡ 2 ^ e - 1
    half = let p = pow_pos e in rw (pow-succ' 2 e) (omega arith)

-- the same of the mask of the places from i + 1 up to e + 1, and of those from i up to e
mask_suc : (i e k : ℕ) → bit (2 ^ suc e - 2 ^ suc i) (suc k) ≡ bit (2 ^ e - 2 ^ i) k
mask_suc i e k = bit_suc (2 ^ suc e - 2 ^ suc i) k ∙ ap (λ (x : ℕ). bit x k) half
  where
    half : (2 ^ suc e - 2 ^ suc i) / 2 ≡ 2 ^ e - 2 ^ i
    half = rw (pow-succ' 2 e, pow-succ' 2 i) (omega arith)

-- the bits of a mask from i up to e are 1
mask_in : (i e k : ℕ) → i ≤ k → k < e → bit (2 ^ e - 2 ^ i) k ≡ 1
mask_in i zero k l h = omega arith
mask_in zero (suc e) zero l h = bit_zero (2 ^ suc e - 1) ∙ (let p = pow_pos e in rw (pow-succ' 2 e) (omega arith))
mask_in zero (suc e) (suc k) l h = low_suc e k ∙ mask_in zero e k (omega arith) (omega arith)
mask_in (suc i) (suc e) zero l h = omega arith
mask_in (suc i) (suc e) (suc k) l h = mask_suc i e k ∙ mask_in i e k (omega arith) (omega arith)

-- the other bits of a mask are 0
mask_out : (i e k : ℕ) → i ≤ e → Outside i e k → bit (2 ^ e - 2 ^ i) k ≡ 0
mask_out zero zero k l o = bit_of_zero k
mask_out (suc i) zero k l o = omega arith
mask_out zero (suc e) zero l o = absurd (o (omega arith) (omega arith))
mask_out zero (suc e) (suc k) l o = low_suc e k ∙ mask_out zero e k (omega arith) (λ p q. o (omega arith) (omega arith))
mask_out (suc i) (suc e) zero l o = bit_zero (2 ^ suc e - 2 ^ suc i) ∙ rw (pow-succ' 2 e, pow-succ' 2 i) (omega arith)
mask_out (suc i) (suc e) (suc k) l o = mask_suc i e k ∙ mask_out i e k (omega arith) (λ p q. o (omega arith) (omega arith))

-- the mask that `fill` computes is 0 with 1 as each of its bits from i up to e
pub mask_filled : (i e : ℕ) → i ≤ e → e ≤ 16 → Filled 0 i e 1 ((1 * 2 ^ e) % 4294967296 - (1 * 2 ^ i) % 4294967296)
mask_filled i e l h =
    rw (one_shl e h, one_shl i (omega arith))
    (record {
      fits = let a = pow_mono {i = e} {j = 16} h in let b = pow_pos i in omega arith;
      inside = λ k a b. mask_in i e k a b;
      outside = λ k o. mask_out i e k l o ∙ sym (bit_of_zero k);
    })

-- ---- a word and a mask m of its places from i up to e

module _ (w i e m : ℕ) (word : w < 65536) (mask : Filled 0 i e 1 m) where
  -- the mask is 0 at the other places
  clear_out : (k : ℕ) → Outside i e k → bit m k ≡ 0
  clear_out k o = mask.outside k o ∙ bit_of_zero k

  -- the mask put over the word sets the places
  pub filled_one : Filled w i e 1 (bit_or w m)
  filled_one = record {
    fits = or_lt 16 w m word mask.fits;
    inside = λ k a b. let s = mask.inside k a b in let t : bit w k < 2 = omega arith in let j = bit_or_lem w m k in omega arith;
    outside = λ k o. bit_or_lem w m k ∙ ap (max (bit w k)) (clear_out k o) ∙ max-zero (bit w k);
  }

  -- and taken out of it again clears them
  pub filled_zero : Filled w i e 0 (bit_xor (bit_or w m) m)
  filled_zero = record {
    fits = xor_lt 16 (bit_or w m) m filled_one.fits mask.fits;
    inside = λ k a b. bit_xor_lem (bit_or w m) m k ∙ ap₂ differ (filled_one.inside k a b) (mask.inside k a b);
    outside = λ k o. bit_xor_lem (bit_or w m) m k ∙ ap₂ differ (filled_one.outside k o) (clear_out k o) ∙ differ_zero (bit w k) (omega arith);
  }

-- the mask of one place
pub bit_filled : (i : ℕ) → i < 16 → Filled 0 i (i + 1) 1 ((1 * 2 ^ i) % 65536)
bit_filled i h =
    let one : (1 * 2 ^ i) % 65536 ≡ 2 ^ i = shl_exact {a = 1} 1 i 16 (lit< tt) (omega arith) ∙ one-mul (2 ^ i) in
    let twice : 2 ^ (i + 1) ≡ 2 * 2 ^ i = ap (λ (x : ℕ). 2 ^ x) (add-one i) ∙ pow-succ' 2 i in
    let lo = one_shl i (omega arith) in
    let hi = one_shl (i + 1) (omega arith) in
    let e : (1 * 2 ^ (i + 1)) % 4294967296 - (1 * 2 ^ i) % 4294967296 ≡ (1 * 2 ^ i) % 65536 = omega arith in
    rw e at (mask_filled i (i + 1) (omega arith) (omega arith))
