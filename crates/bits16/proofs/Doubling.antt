-- Runs of set bits, found by a word and itself shifted; two words in a row; and the places that are multiples. Assumes nothing.
use mathlib.Core.Path.{◌≡◌, sym, ap, ◌∙◌}
use mathlib.Core.Bool.{Bool, true, false}
use mathlib.Core.List.{List, [], ◌∷◌}
use Prim.Native.Nat.{ℕ, zero, suc, ◌+◌, ◌-◌, ◌*◌, ◌/◌, ◌%◌, ◌^◌, ◌≤◌, ◌<◌, min}
use native.Mathlib.Decide.{dec_lt, ℕ_discrete}
use native.Mathlib.Omega.{arith}
use lib.ListN.{get_or}
use lib.Dec.{T, eqb, eqb→eq}
use lib.Pow.{high, low}
use lib.Bits.{bit_and, and_shr, and_step}
use Rattle.bits16.specs.Bits.{bit}
use Rattle.bits16.specs.Runs.{RunsOf, Multiples, Starts}
use Rattle.bits16.proofs.Laws.{bit_shift}
use Rattle.bits16.proofs.Lengths.{bit_mod}

-- a bit of `&` is set where both are
bit_and_lem : (a b k : ℕ) → bit (bit_and a b) k ≡ min (bit a k) (bit b k)
bit_and_lem a b k = ap (λ (x : ℕ). x % 2) (and_shr a b k) ∙ lowest (a / 2 ^ k) (b / 2 ^ k)
  where
    lowest : (x y : ℕ) → bit_and x y % 2 ≡ min (x % 2) (y % 2)
    lowest x y = let e = and_step x y in omega arith

-- every set bit is a run of one
pub runs_one : (x : ℕ) → RunsOf x 1 x
runs_one x = record {
  only = λ i h j a b. let e : j ≡ i = omega arith in rw e h;
  all = λ i h. h i (omega arith) (omega arith);
}

-- two runs of k, of which the second begins d behind the first, are one of k + d
pub runs_more : (x k d m : ℕ) → d ≤ k → RunsOf x k m → RunsOf x (k + d) (bit_and m (m / 2 ^ d))
runs_more x k d m l r = record {
  only = λ i h j a b. only i (sym (bit_and_lem m (m / 2 ^ d) i) ∙ h) j a b (dec_lt j (i + k));
  all = λ i h.
      let here = r.all i (λ j a b. h j a (omega arith)) in
      let there = bit_shift m d i ∙ r.all (d + i) (λ j a b. h j (omega arith) (omega arith)) in
      bit_and_lem m (m / 2 ^ d) i ∙ omega arith;
}
  where
    only : (i : ℕ) → min (bit m i) (bit (m / 2 ^ d) i) ≡ 1 → (j : ℕ) → i ≤ j → j < i + (k + d) → Dec (j < i + k) → bit x j ≡ 1
    only i h j a b (yes s) = r.only i (omega arith) j a s
    only i h j a b (no s) =
        let two : bit (m / 2 ^ d) i < 2 = omega arith in
        let set : bit m (d + i) ≡ 1 = sym (bit_shift m d i) ∙ omega arith in
        r.only (d + i) set j (omega arith) (omega arith)

-- the bits of two words in a row
pub low_bit : (lo hi j : ℕ) → lo < 65536 → j < 16 → bit (lo + 65536 * hi) j ≡ bit lo j
low_bit lo hi j f h =
    sym (bit_mod (lo + 65536 * hi) 16 j h)
    ∙ ap (λ (x : ℕ). bit x j) (ap (λ (x : ℕ). x % 2 ^ 16) (let e : lo + 65536 * hi ≡ hi * 2 ^ 16 + lo = omega arith in e) ∙ low hi 16 f)

pub high_bit : (lo hi j : ℕ) → lo < 65536 → bit (lo + 65536 * hi) (16 + j) ≡ bit hi j
high_bit lo hi j f =
    sym (bit_shift (lo + 65536 * hi) 16 j)
    ∙ ap (λ (x : ℕ). bit x j) (ap (λ (x : ℕ). x / 2 ^ 16) (let e : lo + 65536 * hi ≡ hi * 2 ^ 16 + lo = omega arith in e) ∙ high hi 16 f)

-- the places of a word from which a run starts, of those that are given
pub starts_of : (x n places m : ℕ) → RunsOf x n m → Starts x n places (bit_and (m % 65536) places)
starts_of x n places m r = record {
  place = λ i l h. let e = pair i h in let b : bit places i < 2 = omega arith in omega arith;
  only = λ i l h. let e = pair i h in let b : bit (m % 65536) i < 2 = omega arith in r.only i (sym (bit_mod m 16 i l) ∙ omega arith);
  all = λ i l p s. let one = bit_mod m 16 i l ∙ r.all i s in bit_and_lem (m % 65536) places i ∙ omega arith;
}
  where
    pair : (i : ℕ) → bit (bit_and (m % 65536) places) i ≡ 1 → min (bit (m % 65536) i) (bit places i) ≡ 1
    pair i h = sym (bit_and_lem (m % 65536) places i) ∙ h

-- ---- multiples

-- both of two tests pass
abbrev both : Bool → Bool → Bool
both true b = b
both false b = false

-- a test passes at every number below n
abbrev passed : (ℕ → Bool) → ℕ → Bool
passed f zero = true
passed f (suc n) = both (f n) (passed f n)

pass : (f : ℕ → Bool) (n : ℕ) → T (passed f n) → (k : ℕ) → k < n → T (f k)
pass f zero t k h = absurd (omega arith)
pass f (suc n) t k h = go (ℕ_discrete k n) (split (f n) (passed f n) t) (λ r l. pass f n r k l)
  where
    split : (a b : Bool) → T (both a b) → T a × T b
    split true b t = (tt, t)
    split false b t = absurd t

    go : Dec (k ≡ n) → T (f n) × T (passed f n) → (T (passed f n) → k < n → T (f k)) → T (f k)
    go (yes e) r below = rw e r.0
    go (no d) r below = below r.1 (omega (arith, d))

-- the words whose set bits are the multiples of 1, 2, 4, 8 and 16
unfoldable pub table : List ℕ
table = 65535 ∷ 21845 ∷ 4369 ∷ 257 ∷ 1 ∷ []

-- whether place i is a multiple of 2 ^ a is what its bit says
right : ℕ → ℕ → Bool
unfolding table
right a i = eqb (bit (get_or table a 0) i) (1 - min 1 (i % 2 ^ a))

multiple_bit : (a i : ℕ) → a < 5 → i < 16 → bit (get_or table a 0) i ≡ 1 - min 1 (i % 2 ^ a)
unfolding right
multiple_bit a i l h = eqb→eq _ _ (pass (right a) 16 (pass (λ b. passed (right b) 16) 5 tt a l) i h)

pub multiples_of : (a : ℕ) → a < 5 → Multiples a (get_or table a 0)
multiples_of a l = record {
  only = λ i h s. let e = multiple_bit a i l h in omega arith;
  all = λ i h s. let e = multiple_bit a i l h in omega arith;
}
