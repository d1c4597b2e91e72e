-- The original's own conditions: at which sizes and bases they hold, and that what is asked here holds wherever they do. Assumes nothing.
use mathlib.Core.Path.{◌≡◌, refl}
use Prim.Native.Nat.{ℕ, zero, suc, ◌*◌, ◌^◌, ◌≤◌, ◌<◌}
use native.Mathlib.Omega.{arith}
use lib.Dec.{lit<, lit≤}
use Rattle.owners.specs.States.{Placed}
use Rattle.original.specs.Terms.{IsPow16, CascadeNotOverflow, BaseFits}

-- ---- sizes

-- The condition on each level is not met at the one size that the original is used at, 16^5 frames.
pub cascade_overflows : CascadeNotOverflow 5 → ⊥
cascade_overflows c = let l : 16 ^ 4 * 16 < 1048576 = c.1 in omega arith

-- and at no larger one
too_deep : (d : ℕ) → CascadeNotOverflow (suc (suc (suc (suc (suc d))))) → ⊥
too_deep zero c = cascade_overflows c
too_deep (suc d) c = too_deep d c.0

-- Where it is met the capacity is one of the five powers of 16.
pub cascade_pow16 : (d : ℕ) → 0 < d → CascadeNotOverflow d → IsPow16 (16 ^ d)
cascade_pow16 zero p c = absurd (omega arith)
cascade_pow16 (suc zero) p c = IsPow16.First
cascade_pow16 (suc (suc zero)) p c = IsPow16.Second
cascade_pow16 (suc (suc (suc zero))) p c = IsPow16.Third
cascade_pow16 (suc (suc (suc (suc zero)))) p c = IsPow16.Fourth
cascade_pow16 (suc (suc (suc (suc (suc d))))) p c = absurd (too_deep d c)

-- Each of these five is a size here.
pub pow16_here : (n : ℕ) → IsPow16 n → (d : ℕ) × (0 < d) × (d ≤ 15) × (n ≡ 16 ^ d)
pow16_here n IsPow16.First = (1, lit< tt, lit≤ tt, refl)
pow16_here n IsPow16.Second = (2, lit< tt, lit≤ tt, refl)
pow16_here n IsPow16.Third = (3, lit< tt, lit≤ tt, refl)
pow16_here n IsPow16.Fourth = (4, lit< tt, lit≤ tt, refl)
pow16_here n IsPow16.Fifth = (5, lit< tt, lit≤ tt, refl)

-- ---- bases

-- Where the frames of the whole capacity end at 2^64 - 1 or before, each of them has its place.
pub base_places : (base cap k : ℕ) → BaseFits base cap → k < cap → Placed base k
base_places base cap k f l = omega arith

-- At the largest size here that is met by no base.
pub base_too_high : (base : ℕ) → BaseFits base (16 ^ 15) → ⊥
base_too_high base f = omega arith
