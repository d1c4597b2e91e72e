-- The length of a word in bits, the bits of a word's complement, and what `set_since` answers by them. Assumes nothing.
use mathlib.Core.Path.{◌≡◌, sym, ap, ◌∙◌}
use Prim.Native.Nat.{ℕ, zero, suc, ◌+◌, ◌-◌, ◌*◌, ◌/◌, ◌%◌, ◌^◌, ◌≤◌, ◌<◌}
use native.Mathlib.Numerals.{add-one}
use native.Mathlib.Nat.{zero-mul, one-mul, pow-succ', mod-lt, lt_of_lt_of_le, le-div_iff_mul-le, div-lt_iff_lt-mul}
use native.Mathlib.Decide.{dec_lt}
use native.Mathlib.Omega.{arith}
use lib.Dec.{lit<}
use lib.Pow.{pow_pos, pow_mono, field, mod-mod-pow, shl_exact, high, low}
use lib.Bits.{bit_or, or_shifted_r}
use lib.Count.{count_leading_zeros, leading_length}
use Rattle.bits16.specs.Bits.{bit, Appended, SetSince}
use Rattle.bits16.proofs.Laws.{bit_zero, bit_suc, bit_of_zero, bit_above, bit_within}

-- the lowest e bits of a word are kept by `% 2 ^ e`
pub bit_mod : (w e k : ℕ) → k < e → bit (w % 2 ^ e) k ≡ bit w k
bit_mod w e k h =
    let z : e ≡ (e - 1 - k + 1) + k = omega arith in
    ap (λ (x : ℕ). bit (w % 2 ^ x) k) z ∙ ap (λ (x : ℕ). x % 2) (field w (e - 1 - k + 1) k) ∙ mod-mod-pow (w / 2 ^ k) (e - 1 - k) 1

-- the complement of a word of n bits has the other bits
bit_not : (n w k : ℕ) → w < 2 ^ n → k < n → bit (2 ^ n - 1 - w) k ≡ 1 - bit w k
bit_not zero w k h l = omega arith
bit_not (suc n) w zero h l =
    let h₂ : w < 2 * 2 ^ n = rw (pow-succ' 2 n) at h in
    rw (bit_zero w, bit_zero (2 ^ suc n - 1 - w), pow-succ' 2 n) (omega arith)
bit_not (suc n) w (suc k) h l =
    let h₂ : w < 2 * 2 ^ n = rw (pow-succ' 2 n) at h in
    let half : (2 ^ suc n - 1 - w) / 2 ≡ 2 ^ n - 1 - w / 2 = rw (pow-succ' 2 n) (omega arith) in
    bit_suc (2 ^ suc n - 1 - w) k ∙ ap (λ (x : ℕ). bit x k) half ∙ bit_not n (w / 2) k (omega arith) (omega arith)
    ∙ ap (λ (x : ℕ). 1 - x) (sym (bit_suc w k))

-- every bit of a full word is set
pub full_bit : (k : ℕ) → k < 16 → bit 65535 k ≡ 1
full_bit k h = bit_not 16 0 k (lit< tt) h ∙ ap (λ (x : ℕ). 1 - x) (bit_of_zero k)

-- ---- a word x that is m bits long

module _ (x m : ℕ) (below : x < 2 ^ m) (least : 2 ^ m ≤ 2 * x + 1) where
  -- its highest bit is set
  bit_top : 0 < m → bit x (m - 1) ≡ 1
  bit_top p =
      let e : m ≡ suc (m - 1) = omega arith in
      let twice : 2 ^ m ≡ 2 * 2 ^ (m - 1) = ap (λ (y : ℕ). 2 ^ y) e ∙ pow-succ' 2 (m - 1) in
      let some : 1 * 2 ^ (m - 1) ≤ x = omega arith in
      let few : x < 2 * 2 ^ (m - 1) = omega arith in
      let l = (le-div_iff_mul-le (pow_pos (m - 1))).1 some in
      let h = (div-lt_iff_lt-mul (pow_pos (m - 1))).1 few in omega arith

  -- where its bits are those below e that w has not, the bits of w are set from m up to e, and m is the lowest such place
  since_length : (w e : ℕ) → x < 2 ^ e → ((k : ℕ) → k < e → bit x k ≡ 1 - bit w k) → SetSince w e m
  since_length w e fits clear = record {
    low = omega arith;
    high = go (dec_lt 0 m);
    after = λ k l h. let z = bit_above m x k below l in let n = clear k h in let b : bit w k < 2 = omega arith in omega arith;
    fails = λ p b. let t = bit_top p in let n = clear (m - 1) (top_within p) in omega arith;
  }
    where
      top_within : 0 < m → m - 1 < e
      top_within p = bit_within e x (m - 1) fits (bit_top p)

      go : Dec (0 < m) → m ≤ e
      go (yes p) = let l = top_within p in omega arith
      go (no g) = omega arith

-- ---- the clear bits of a word below e, as a word

-- the length of that word is what `set_since` answers
pub since_leading : (w e : ℕ) → w < 65536 → e ≤ 16 → SetSince w e (16 - count_leading_zeros 16 ((65535 - w) % 2 ^ e))
since_leading w e h l =
    let fits = mod-lt (65535 - w) (pow_pos e) in
    let t = leading_length 16 ((65535 - w) % 2 ^ e) (lt_of_lt_of_le fits (pow_mono l)) in
    let z : 16 - count_leading_zeros 16 ((65535 - w) % 2 ^ e) ≡ t.0 = omega arith in
    rw z
    (since_length ((65535 - w) % 2 ^ e) t.0 t.2 t.3 w e fits
    (λ k s. bit_mod (65535 - w) e k s ∙ bit_not 16 w k h (omega arith)))

-- ---- words bit by bit

-- one bit more, above all others
pub appended : (w i v : ℕ) → i < 16 → w < 2 ^ i → v < 2 → Appended w i v (bit_or w ((v * 2 ^ i) % 65536))
appended w i v h f two =
    let exact : (v * 2 ^ i) % 65536 ≡ v * 2 ^ i = shl_exact {a = v} 1 i 16 two (omega arith) in
    let sum = or_shifted_r v i w f in
    let twice : 2 ^ (i + 1) ≡ 2 * 2 ^ i = ap (λ (x : ℕ). 2 ^ x) (add-one i) ∙ pow-succ' 2 i in
    rw (exact, sum) (record {
      fits = fits v two (omega arith);
      here = ap (λ (x : ℕ). x % 2) (high v i f) ∙ omega arith;
      below = λ k l. sym (bit_mod (v * 2 ^ i + w) i k l) ∙ ap (λ (x : ℕ). bit x k) (low v i f);
    })
  where
    fits : (v : ℕ) → v < 2 → 2 ^ (i + 1) ≡ 2 * 2 ^ i → v * 2 ^ i + w < 2 ^ (i + 1)
    fits zero l e = let z = zero-mul (2 ^ i) in omega arith
    fits (suc zero) l e = let o = one-mul (2 ^ i) in omega arith
    fits (suc (suc v)) l e = absurd (omega arith)

-- words with the same bits are the same
pub same_bits : (n a b : ℕ) → a < 2 ^ n → b < 2 ^ n → ((k : ℕ) → k < n → bit a k ≡ bit b k) → a ≡ b
same_bits zero a b f g h = omega arith
same_bits (suc n) a b f g h =
    let f₂ : a < 2 * 2 ^ n = rw (pow-succ' 2 n) at f in
    let g₂ : b < 2 * 2 ^ n = rw (pow-succ' 2 n) at g in
    let lowest : a % 2 ≡ b % 2 = sym (bit_zero a) ∙ h 0 (omega arith) ∙ bit_zero b in
    let rest = same_bits n (a / 2) (b / 2) (omega arith) (omega arith) (λ k l. sym (bit_suc a k) ∙ h (suc k) (omega arith) ∙ bit_suc b k) in
    omega arith
