-- The laws of the two searches: each statement determines its answer. Assumes nothing.
use mathlib.Core.Path.{◌≡◌, sym}
use Prim.Native.Nat.{ℕ, zero, suc, ◌+◌, ◌-◌, ◌≤◌, ◌<◌}
use native.Mathlib.Decide.{dec_lt, ℕ_discrete}
use native.Mathlib.Omega.{arith}
use Rattle.base.specs.Search.{Stops, Since, Everywhere, First}

-- ---- upwards

-- two answers to one search: neither is before the other
no_sooner : {P : ℕ → Type 0} {a b r s : ℕ} → Stops P a b r → Stops P a b s → r < s → ⊥
no_sooner {r = r} x y l = let lo = x.low in let hi = y.high in x.fails (omega arith) (y.before r lo l)

pub stops_once : {P : ℕ → Type 0} {a b r s : ℕ} → Stops P a b r → Stops P a b s → r ≡ s
stops_once {r = r} {s = s} x y = go (dec_lt r s) (dec_lt s r)
  where
    go : Dec (r < s) → Dec (s < r) → r ≡ s
    go (yes l) d = absurd (no_sooner x y l)
    go (no g) (yes l) = absurd (no_sooner y x l)
    go (no g) (no h) = omega arith

-- one number further up
pub below_more : {P : ℕ → Type 0} (a n : ℕ) → ((k : ℕ) → a ≤ k → k < n → P k) → P n → (k : ℕ) → a ≤ k → k < n + 1 → P k
below_more {P} a n below here k l h = go (ℕ_discrete k n)
  where
    go : Dec (k ≡ n) → P k
    go (yes q) = rw q here
    go (no d) = below k l (omega (arith, d))

-- a search that has passed no number
pub stops_none : {P : ℕ → Type 0} (a : ℕ) → Stops P a a a
stops_none a = record { low = omega arith; high = omega arith; before = λ k l h. absurd (omega arith); fails = λ l. absurd (omega arith) }

-- a search that has passed all numbers up to k passes k as well
pub stops_more : {P : ℕ → Type 0} {a k : ℕ} → Stops P a k k → P k → Stops P a (k + 1) (k + 1)
stops_more {P} {a} {k} s p = let low = s.low in record { low = omega arith; high = omega arith; before = below_more a k s.before p; fails = λ l. absurd (omega arith) }

-- a search that has passed all numbers up to k ends there
pub stops_at : {P : ℕ → Type 0} {a k : ℕ} (b : ℕ) → Stops P a k k → k ≤ b → (k < b → P k → ⊥) → Stops P a b k
stops_at b s l f = record { low = s.low; high = l; before = s.before; fails = f }

-- a search that has passed all numbers up to the last ends there
pub stops_all : {P : ℕ → Type 0} {a b k r : ℕ} → k ≡ b → k ≡ r → Stops P a k k → Stops P a b r
stops_all e f s = rw (← e, ← f) s

-- ---- downwards

no_lower : {P : ℕ → Type 0} {a b r s : ℕ} → Since P a b r → Since P a b s → r < s → ⊥
no_lower {r = r} {s = s} x y l = let lo = x.low in let hi = y.high in y.fails (omega arith) (x.after (s - 1) (omega arith) (omega arith))

pub since_once : {P : ℕ → Type 0} {a b r s : ℕ} → Since P a b r → Since P a b s → r ≡ s
since_once {r = r} {s = s} x y = go (dec_lt r s) (dec_lt s r)
  where
    go : Dec (r < s) → Dec (s < r) → r ≡ s
    go (yes l) d = absurd (no_lower x y l)
    go (no g) (yes l) = absurd (no_lower y x l)
    go (no g) (no h) = omega arith

-- one number further down
pub above_more : {P : ℕ → Type 0} (n m b : ℕ) → ((k : ℕ) → n ≤ k → k < b → P k) → m + 1 ≡ n → P m → (k : ℕ) → m ≤ k → k < b → P k
above_more {P} n m b above e here k l h = go (ℕ_discrete k m)
  where
    go : Dec (k ≡ m) → P k
    go (yes q) = rw q here
    go (no d) = above k (omega (arith, d)) h

-- where not every number below n passes, there is one that does not
pub some_fails : (P : ℕ → Type 0) → ((i : ℕ) → Dec (P i)) → (n : ℕ) → (((i : ℕ) → i < n → P i) → ⊥) → (i : ℕ) × (i < n) × (P i → ⊥)
some_fails P test zero not = absurd (not (λ i l. absurd (omega arith)))
some_fails P test (suc n) not = go (test n) (some_fails P test n)
  where
    go : Dec (P n) → ((((i : ℕ) → i < n → P i) → ⊥) → (i : ℕ) × (i < n) × (P i → ⊥)) → (i : ℕ) × (i < suc n) × (P i → ⊥)
    go (no f) lower = (n, omega arith, f)
    go (yes p) lower =
        let r = lower (λ all. not (λ i l. at i l all (ℕ_discrete i n))) in
        (r.0, (let l = r.1 in omega arith), r.2)
      where
        at : (i : ℕ) → i < suc n → ((i : ℕ) → i < n → P i) → Dec (i ≡ n) → P i
        at i l all (yes e) = rw e p
        at i l all (no d) = all i (omega (arith, d))

-- ---- by rows

-- no place is first where P holds everywhere
pub none_first : {P : ℕ → ℕ → Type 0} {width : ℕ → ℕ} {n a b : ℕ} → First P width n a b → Everywhere P width n → ⊥
none_first {a = a} {b = b} f all = f.fails (all a b f.row f.place)

-- two first places: neither is before the other
no_earlier_row : {P : ℕ → ℕ → Type 0} {width : ℕ → ℕ} {n a b a' b' : ℕ} → First P width n a b → First P width n a' b' → a < a' → ⊥
no_earlier_row {a = a} {b = b} f g l = f.fails (g.rows_before a b l f.place)

pub first_row_once : {P : ℕ → ℕ → Type 0} {width : ℕ → ℕ} {n a b a' b' : ℕ} → First P width n a b → First P width n a' b' → a ≡ a'
first_row_once {a = a} {a' = a'} f g = go (dec_lt a a') (dec_lt a' a)
  where
    go : Dec (a < a') → Dec (a' < a) → a ≡ a'
    go (yes l) d = absurd (no_earlier_row f g l)
    go (no x) (yes l) = absurd (no_earlier_row g f l)
    go (no x) (no y) = omega arith

pub first_once : {P : ℕ → ℕ → Type 0} {width : ℕ → ℕ} {n a b a' b' : ℕ} → First P width n a b → First P width n a' b' → b ≡ b'
first_once {P} {a = a} {b} {a'} {b'} f g = go (dec_lt b b') (dec_lt b' b)
  where
    e : a ≡ a'
    e = first_row_once f g

    go : Dec (b < b') → Dec (b' < b) → b ≡ b'
    go (yes l) d = absurd (f.fails (rw e (g.before b l)))
    go (no x) (yes l) = absurd (g.fails (rw (sym e) (f.before b' l)))
    go (no x) (no y) = omega arith

-- a row that passes, after rows that pass
pub row_more : {P : ℕ → ℕ → Type 0} {width : ℕ → ℕ} {m : ℕ} → Everywhere P width m → ((b : ℕ) → b < width m → P m b) → Everywhere P width (m + 1)
row_more {P} {width} {m} above here a b l h = go (ℕ_discrete a m)
  where
    go : Dec (a ≡ m) → P a b
    go (yes q) = rw q (here b (rw q at h))
    go (no d) = above a b (omega (arith, d)) h
