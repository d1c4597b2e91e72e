-- The regions of the examples: two pages that are valid, and one region for each condition that a region can break. Assumes nothing.
use mathlib.Core.Path.{refl}
use Prim.Native.Nat.{ℕ}
use native.Mathlib.Omega.{arith}
use lib.Dec.{lit<}
use Rattle.address.specs.declared.Kind.{Kind}
use Rattle.address.specs.declared.Region.{Region}
use Rattle.address.specs.Regions.{OnPages, Valid}

-- an ordinary region
abbrev pub region : ℕ → ℕ → ℕ → Region
region guest host pages = record { guest = guest; host = host; pages = pages; kind = Kind.Ordinary }

-- a page, and the page behind it
abbrev pub page : Region
page = region 0 4096 1

abbrev pub next : Region
next = region 4096 8192 1

-- a region without a page; with a guest start, a host start that is no multiple of a page; and whose guest end, host end passes 2^64 - 1
abbrev pub empty : Region
empty = region 0 4096 0

abbrev pub guest_off : Region
guest_off = region 1 4096 1

abbrev pub host_off : Region
host_off = region 0 4097 1

abbrev pub guest_high : Region
guest_high = region 18446744073709547520 4096 1

abbrev pub host_high : Region
host_high = region 0 18446744073709547520 1

-- the two pages are valid
pub page_valid : Valid page.guest page.host page.pages
page_valid = record { on = record { some = lit< tt; guest_start = refl; host_start = refl }; guest_end = lit< tt; host_end = lit< tt }

pub next_valid : Valid next.guest next.host next.pages
next_valid = record { on = record { some = lit< tt; guest_start = refl; host_start = refl }; guest_end = lit< tt; host_end = lit< tt }

-- the high ones are on pages
pub guest_high_on : OnPages guest_high.guest guest_high.host guest_high.pages
guest_high_on = record { some = lit< tt; guest_start = refl; host_start = refl }

pub host_high_on : OnPages host_high.guest host_high.host host_high.pages
host_high_on = record { some = lit< tt; guest_start = refl; host_start = refl }

-- none of the five is valid
pub empty_not : Valid empty.guest empty.host empty.pages → ⊥
empty_not v = let s = v.on.some in omega arith

pub guest_off_not : Valid guest_off.guest guest_off.host guest_off.pages → ⊥
guest_off_not v = let s = v.on.guest_start in omega arith

pub host_off_not : Valid host_off.guest host_off.host host_off.pages → ⊥
host_off_not v = let s = v.on.host_start in omega arith

pub guest_high_not : Valid guest_high.guest guest_high.host guest_high.pages → ⊥
guest_high_not v = omega (arith, v.guest_end)

pub host_high_not : Valid host_high.guest host_high.host host_high.pages → ⊥
host_high_not v = omega (arith, v.host_end)
