-- Addresses, frames and ranges of pages. Assumes nothing.
use mathlib.Core.Path.{◌≡◌}
use Prim.Native.Nat.{ℕ, ◌+◌, ◌-◌, ◌*◌, ◌/◌, ◌%◌, ◌^◌, ◌≤◌, ◌<◌}
use native.Mathlib.Decide.{dec_le}
use native.Mathlib.Omega.{arith}
use Rattle.address.specs.Pages.{Share}
use Rattle.address.specs.Regions.{Valid}
use Rattle.original.specs.Terms.{Overlap}

-- The pages of a valid region are at most (2^64 - 1) / 4096.
pub few_pages : {guest host pages : ℕ} → Valid guest host pages → pages ≤ (2 ^ 64 - 1) / 4096
few_pages v = let e = v.guest_end in omega arith

-- The address of a frame is a multiple of 4096, and its number is told by its distance from the base.
pub frame_aligned : (base k : ℕ) → base % 4096 ≡ 0 → (base + 4096 * k) % 4096 ≡ 0
frame_aligned base k e = omega arith

pub frame_number : (base k addr : ℕ) → addr ≡ base + 4096 * k → (addr - base) / 4096 ≡ k
frame_number base k addr e = omega arith

-- Ranges that start on pages, and have one, share a page exactly if they overlap.
pub share_overlaps : {s1 p1 s2 p2 : ℕ} → s1 % 4096 ≡ 0 → s2 % 4096 ≡ 0 → Share s1 p1 s2 p2 → Overlap s1 (4096 * p1) s2 (4096 * p2)
share_overlaps a b h =
    let x = h.first.low in
    let y = h.first.high in
    let z = h.second.low in
    let w = h.second.high in
    record { first = λ l. omega arith; second = λ l. omega arith }

pub overlaps_share : {s1 p1 s2 p2 : ℕ} → s1 % 4096 ≡ 0 → s2 % 4096 ≡ 0 → 0 < p1 → 0 < p2 → Overlap s1 (4096 * p1) s2 (4096 * p2) → Share s1 p1 s2 p2
overlaps_share {s1} {p1} {s2} {p2} a b n m o = go (dec_le s1 s2)
  where
    go : Dec (s1 ≤ s2) → Share s1 p1 s2 p2
    go (yes l) = let h = o.first l in record { page = s2 / 4096; first = record { low = omega arith; high = omega arith }; second = record { low = omega arith; high = omega arith } }
    go (no l) = let h = o.second (omega (arith, l)) in record { page = s1 / 4096; first = record { low = omega arith; high = omega arith }; second = record { low = omega (arith, l); high = omega arith } }
