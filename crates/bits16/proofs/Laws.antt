-- The laws of `bit`, of `Lowest`, and of how many bits are set. Assumes nothing.
use mathlib.Core.Path.{◌≡◌, refl, sym, ap, ◌∙◌}
use Prim.Native.Nat.{ℕ, zero, suc, ◌+◌, ◌-◌, ◌*◌, ◌/◌, ◌%◌, ◌^◌, ◌≤◌, ◌<◌}
use native.Mathlib.Nat.{pow-succ', div-div-eq-div-mul, zero-div, div-one, div-eq_of_lt, le-div_iff_mul-le, lt_of_lt_of_le}
use native.Mathlib.Decide.{dec_lt}
use native.Mathlib.Omega.{arith}
use lib.Pow.{pow_pos, pow_mono, shr-shr, shr_le}
use lib.Count as count
use lib.Count.{count_trailing_zeros, under}
use Rattle.base.specs.Search.{Stops}
use Rattle.base.specs.Ranges.{how_many}
use Rattle.base.proofs.Counts.{many_first, many_same}
use Rattle.bits16.specs.Bits.{bit, Lowest}

-- ---- single bits

-- the lowest bit
pub bit_zero : (w : ℕ) → bit w 0 ≡ w % 2
bit_zero w = ap (λ (x : ℕ). x % 2) (div-one w)

-- every other bit is one of the word's half
pub bit_suc : (w i : ℕ) → bit w (suc i) ≡ bit (w / 2) i
bit_suc w i = ap (λ (x : ℕ). x % 2) (ap (λ (x : ℕ). w / x) (pow-succ' 2 i) ∙ sym (div-div-eq-div-mul w 2 (2 ^ i)))

-- the bits of a word shifted down by i are the word's from i on
pub bit_shift : (w i k : ℕ) → bit (w / 2 ^ i) k ≡ bit w (i + k)
bit_shift w i k = ap (λ (x : ℕ). x % 2) (shr-shr w i k)

-- the same for a bit that is given by its place in the word
bit_from : (w i k : ℕ) → i ≤ k → bit w k ≡ bit (w / 2 ^ i) (k - i)
bit_from w i k l = let z : k ≡ i + (k - i) = omega arith in ap (bit w) z ∙ sym (bit_shift w i (k - i))

-- 0 has no set bit
pub bit_of_zero : (i : ℕ) → bit 0 i ≡ 0
bit_of_zero i = ap (λ (x : ℕ). x % 2) (zero-div (2 ^ i))

-- a bit that is not 0 is 1
pub bit_one : (w i : ℕ) → (bit w i ≡ 0 → ⊥) → bit w i ≡ 1
bit_one w i n = let m : bit w i < 2 = omega arith in omega (arith, n)

-- a word of n bits has no set bit from n on
pub bit_above : (n w k : ℕ) → w < 2 ^ n → n ≤ k → bit w k ≡ 0
bit_above n w k h l = ap (λ (x : ℕ). x % 2) (div-eq_of_lt (lt_of_lt_of_le h (pow_mono l)))

-- a word whose bit i is set is at least 2 ^ i
pub bit_le : (w i : ℕ) → bit w i ≡ 1 → 2 ^ i ≤ w
bit_le w i h =
    let some : 1 ≤ w / 2 ^ i = omega arith in
    let l = (le-div_iff_mul-le (pow_pos i)).0 some in omega arith

-- each set bit of a word of n bits is below n
pub bit_within : (n w k : ℕ) → w < 2 ^ n → bit w k ≡ 1 → k < n
bit_within n w k h b = go (dec_lt k n) (bit_le w k b)
  where
    go : Dec (k < n) → 2 ^ k ≤ w → k < n
    go (yes l) p = l
    go (no g) p = let m = pow_mono {i = n} {j = k} (omega arith) in omega arith

-- a word of n bits that are all 0 is 0
pub all_zero : (n w : ℕ) → w < 2 ^ n → ((k : ℕ) → k < n → bit w k ≡ 0) → w ≡ 0
all_zero zero w h z = omega arith
all_zero (suc n) w h z =
    let h₂ : w < 2 * 2 ^ n = rw (pow-succ' 2 n) at h in
    let low : w % 2 ≡ 0 = sym (bit_zero w) ∙ z 0 (omega arith) in
    let high = all_zero n (w / 2) (omega arith) (λ k l. sym (bit_suc w k) ∙ z (suc k) (omega arith)) in
    omega arith

-- a word with a set bit is not 0
pub some_set : (w i : ℕ) → bit w i ≡ 1 → w ≡ 0 → ⊥
some_set w i h e = let z : bit w i ≡ 0 = ap (λ (x : ℕ). bit x i) e ∙ bit_of_zero i in omega arith

-- ---- the lowest set bit

-- the lowest set bit below 16 is set
pub lowest_set : (w : ℕ) {i r : ℕ} → Lowest w i r → r < 16 → bit w r ≡ 1
lowest_set w {r = r} l h = bit_one w r (l.fails h)

-- a word that is not 0 has its lowest set bit below 16
pub lowest_some : (w r : ℕ) → w < 2 ^ 16 → Lowest w 0 r → (w ≡ 0 → ⊥) → r < 16
lowest_some w r h l n = go (dec_lt r 16)
  where
    go : Dec (r < 16) → r < 16
    go (yes s) = s
    go (no g) = absurd (n (all_zero 16 w h (λ k s. l.before k (omega arith) (omega arith))))

-- where a shift by i leaves nothing, no bit is set at i or above
pub lowest_none : (w i : ℕ) → i ≤ 16 → w / 2 ^ i ≡ 0 → Lowest w i 16
lowest_none w i h e = record {
  low = h;
  high = omega arith;
  before = λ k l s. bit_from w i k l ∙ ap (λ (x : ℕ). bit x (k - i)) e ∙ bit_of_zero (k - i);
  fails = λ s. absurd (omega arith);
}

-- where it leaves a word that is not 0, that word's lowest set bit is the lowest at i or above
pub lowest_shift : (w i r : ℕ) → w < 2 ^ 16 → Lowest (w / 2 ^ i) 0 r → (w / 2 ^ i ≡ 0 → ⊥) → Lowest w i (i + r)
lowest_shift w i r h l n =
    let less = shr_le w i in
    let here = lowest_set (w / 2 ^ i) l (lowest_some (w / 2 ^ i) r (omega arith) l n) in
    let set = sym (bit_shift w i r) ∙ here in
    let room = bit_within 16 w (i + r) h set in
    record {
      low = omega arith;
      high = omega arith;
      before = λ k a s. bit_from w i k a ∙ l.before (k - i) (omega arith) (omega arith);
      fails = λ s z. omega arith;
    }

-- r is the place of the lowest set bit among n where every lower bit is 0, and r is n or its bit is 1
pub lowest_at : (n w r : ℕ) → r ≤ n → ((k : ℕ) → k < r → bit w k ≡ 0) → (r < n → bit w r ≡ 1) → Stops (λ (k : ℕ). bit w k ≡ 0) 0 n r
lowest_at n w r l below here = record {
  low = omega arith;
  high = l;
  before = λ k a h. below k h;
  fails = λ h z. let b = here h in omega arith;
}

-- the bits of an even word up to t are 0 where those of its half below t are
even_below : (w t : ℕ) → w % 2 ≡ 0 → ((k : ℕ) → 0 ≤ k → k < t → bit (w / 2) k ≡ 0) → (k : ℕ) → k < suc t → bit w k ≡ 0
even_below w t e below zero h = bit_zero w ∙ e
even_below w t e below (suc k) h = bit_suc w k ∙ below k (omega arith) (omega arith)

-- the machine's count of trailing zeros among n bits is the place of the lowest set one
trailing_lowest : (n w : ℕ) → Stops (λ (k : ℕ). bit w k ≡ 0) 0 n (count_trailing_zeros n w)
unfolding count_trailing_zeros
trailing_lowest zero w = lowest_at 0 w 0 (omega arith) (λ k h. absurd (omega arith)) (λ h. absurd (omega arith))
trailing_lowest (suc n) w = go (w % 2) refl (trailing_lowest n (w / 2))
  where
    go : (b : ℕ) → w % 2 ≡ b → Stops (λ (k : ℕ). bit (w / 2) k ≡ 0) 0 n (count_trailing_zeros n (w / 2))
        → Stops (λ (k : ℕ). bit w k ≡ 0) 0 (suc n) (under b (count_trailing_zeros n (w / 2)))
    go zero e s =
        let t = count_trailing_zeros n (w / 2) in
        let l = s.high in
        lowest_at (suc n) w (suc t) (omega arith) (even_below w t e s.before) (λ h. bit_suc w t ∙ bit_one (w / 2) t (s.fails (omega arith)))
    go (suc b) e s =
        let odd : w % 2 ≡ 1 = omega arith in
        lowest_at (suc n) w 0 (omega arith) (λ k h. absurd (omega arith)) (λ h. bit_zero w ∙ odd)

-- so every word has a lowest place
pub lowest_trailing : (w : ℕ) → Lowest w 0 (count_trailing_zeros 16 w)
lowest_trailing w = trailing_lowest 16 w

-- ---- how many bits are set

-- the machine's count of ones in a word of n bits is how many of its bits are set
pub ones_many : (n w : ℕ) → w < 2 ^ n → count.ones w ≡ how_many (bit w) n
unfolding how_many
ones_many zero w h = let l = count.ones-le 0 w h in omega arith
ones_many (suc n) w h =
    let h₂ : w < 2 * 2 ^ n = rw (pow-succ' 2 n) at h in
    let step = count.ones_step w in
    let more = ones_many n (w / 2) (omega arith) in
    let first = many_first (bit w) n in
    let low = bit_zero w in
    let rest = many_same (λ k. bit w (suc k)) (bit (w / 2)) n (λ k l. bit_suc w k) in
    omega arith
