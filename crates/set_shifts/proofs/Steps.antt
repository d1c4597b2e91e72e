-- One step of each writer of slots. Assumes nothing.
use mathlib.Core.Path.{◌≡◌, ◌∙◌}
use mathlib.Core.List.{List}
use Prim.Native.Nat.{ℕ, ◌+◌, ◌*◌, ◌≤◌, ◌<◌}
use native.Mathlib.Decide.{ℕ_discrete}
use native.Mathlib.Omega.{arith}
use Rattle.address.specs.declared.Region.{Region}
use Rattle.region_words.specs.Words.{nothing, HasRegion, Put}
use Rattle.set_slots.specs.Slots.{slot, Empty}
use Rattle.set_shifts.specs.Shifts.{ShiftedUp, ShiftedDown, Wiped}
use Rattle.base.proofs.Ranges.{only_none, only_then}
use Rattle.region_words.proofs.Laws.{put_only}
use Rattle.set_shifts.proofs.Kept.{region_same, words_same}

-- ---- up

pub up_start : (z : List ℕ) (at n : ℕ) → ShiftedUp z at n n z
up_start z at n = record { only = only_none z _ _; moved = λ j a b. absurd (omega arith) }

pub up_step : {z z' z'' : List ℕ} {n : ℕ} {r : Region} (at i m : ℕ) → m + 1 ≡ i → i ≤ n → ShiftedUp z at i n z' → r ≡ slot z' at m → Put z' (at + 1 + 4 * i) r z'' → ShiftedUp z at m n z''
up_step {z} {z'} {z''} {n} {r} at i m e h s g w =
    record {
      only = only_then (at + 1 + 4 * (m + 1)) (at + 1 + 4 * (n + 1)) s.only (put_only w) (omega arith) (omega arith) (omega arith) (omega arith);
      moved = λ j a b. go j a b (ℕ_discrete j m);
    }
  where
    is : r ≡ slot z at m
    is = g ∙ region_same (at + 1 + 4 * m) s.only (λ x y. omega arith)

    go : (j : ℕ) → m ≤ j → j < n → Dec (j ≡ m) → HasRegion z'' (at + 1 + 4 * (j + 1)) (slot z at j)
    go j a b (yes q) = rw (q, e, ← is) w.has
    go j a b (no d) = words_same (put_only w) (λ x y. omega (arith, d)) (s.moved j (omega (arith, d)) b)

-- ---- down

pub down_start : (z : List ℕ) (at p : ℕ) → ShiftedDown z at p p z
down_start z at p = record { only = only_none z _ _; moved = λ j a b. absurd (omega arith) }

pub down_step : {z z' z'' : List ℕ} {p : ℕ} {r : Region} (at i : ℕ) → p ≤ i → ShiftedDown z at p i z' → r ≡ slot z' at (i + 1) → Put z' (at + 1 + 4 * i) r z'' → ShiftedDown z at p (i + 1) z''
down_step {z} {z'} {z''} {p} {r} at i h s g w =
    record {
      only = only_then (at + 1 + 4 * p) (at + 1 + 4 * (i + 1)) s.only (put_only w) (omega arith) (omega arith) (omega arith) (omega arith);
      moved = λ j a b. go j a b (ℕ_discrete j i);
    }
  where
    is : r ≡ slot z at (i + 1)
    is = g ∙ region_same (at + 1 + 4 * (i + 1)) s.only (λ x y. omega arith)

    go : (j : ℕ) → p ≤ j → j < i + 1 → Dec (j ≡ i) → HasRegion z'' (at + 1 + 4 * j) (slot z at (j + 1))
    go j a b (yes q) = rw (q, ← is) w.has
    go j a b (no d) = words_same (put_only w) (λ x y. omega (arith, d)) (s.moved j a (omega (arith, d)))

-- ---- wiped

pub wipe_start : (z : List ℕ) (at : ℕ) → Wiped z at 0 z
wipe_start z at = record { only = only_none z _ _; clear = λ j l. absurd (omega arith) }

pub wipe_step : {z z' z'' : List ℕ} (at i : ℕ) → Wiped z at i z' → Put z' (at + 1 + 4 * i) nothing z'' → Wiped z at (i + 1) z''
wipe_step {z} {z'} {z''} at i s w =
    record {
      only = only_then (at + 1) (at + 1 + 4 * (i + 1)) s.only (put_only w) (omega arith) (omega arith) (omega arith) (omega arith);
      clear = λ j l. go j l (ℕ_discrete j i);
    }
  where
    go : (j : ℕ) → j < i + 1 → Dec (j ≡ i) → Empty z'' at j
    go j l (yes q) = rw q w.has
    go j l (no d) = words_same (put_only w) (λ x y. omega (arith, d)) (s.clear j (omega (arith, d)))
