-- An example of every answer about addresses and regions. Assumes nothing.
use mathlib.Core.Path.{◌≡◌, refl}
use mathlib.Core.Bool.{true, false}
use Prim.Native.Nat.{ℕ, ◌/◌}
use native.Mathlib.Omega.{arith}
use lib.Dec.{lit<, lit≤}
use Rattle.std.specs.Prelude.{Ok, Err, Some, None}
use Rattle.base.specs.Says.{Says}
use Rattle.address.specs.declared.Fault.{Fault}
use Rattle.address.specs.declared.Untranslated.{Untranslated}
use Rattle.address.specs.Pages.{Multiple, EndSays, Contains, Share}
use Rattle.address.specs.Regions.{Valid, ValiditySays, TranslateSays}
use Rattle.region_examples.proofs.Regions.{page, next, empty, guest_off, host_off, guest_high, host_high, page_valid, guest_high_on, host_high_on, empty_not}

-- ---- page_of

pub page_of : ◌≡◌ {A = ℕ} 1 (4097 / 4096)
page_of = refl

-- ---- aligned

pub aligned_true : Says true (Multiple 4096 8192)
aligned_true = record { times = 2; is = refl }

pub aligned_false : Says false (Multiple 4096 8193)
aligned_false m = let e = m.is in omega arith

-- ---- validity

pub validity_ok : ValiditySays page.guest page.host page.pages (Ok tt)
validity_ok = page_valid

pub validity_no_page : ValiditySays empty.guest empty.host empty.pages (Err Fault.NoPage)
validity_no_page = refl

pub validity_guest_start : ValiditySays guest_off.guest guest_off.host guest_off.pages (Err Fault.GuestStart)
validity_guest_start = (lit< tt, λ e. omega (arith, e))

pub validity_host_start : ValiditySays host_off.guest host_off.host host_off.pages (Err Fault.HostStart)
validity_host_start = (lit< tt, refl, λ e. omega (arith, e))

pub validity_guest_end : ValiditySays guest_high.guest guest_high.host guest_high.pages (Err Fault.GuestEnd)
validity_guest_end = (guest_high_on, λ f. omega (arith, f))

pub validity_host_end : ValiditySays host_high.guest host_high.host host_high.pages (Err Fault.HostEnd)
validity_host_end = (host_high_on, lit< tt, λ f. omega (arith, f))

-- ---- valid

pub valid_true : Says true (Valid page.guest page.host page.pages)
valid_true = page_valid

pub valid_false : Says false (Valid empty.guest empty.host empty.pages)
valid_false = empty_not

-- ---- vend and pend

pub vend_some : EndSays page.guest page.pages (Some 4096)
vend_some = (lit< tt, refl)

pub vend_none : EndSays guest_high.guest guest_high.pages None
vend_none f = omega (arith, f)

pub pend_some : EndSays page.host page.pages (Some 8192)
pend_some = (lit< tt, refl)

pub pend_none : EndSays host_high.host host_high.pages None
pend_none f = omega (arith, f)

-- ---- overlaps_vmem and overlaps_pmem

pub overlaps_vmem_true : Says true (Share page.guest page.pages page.guest page.pages)
overlaps_vmem_true = record { page = 0; first = record { low = lit≤ tt; high = lit< tt }; second = record { low = lit≤ tt; high = lit< tt } }

pub overlaps_vmem_false : Says false (Share page.guest page.pages next.guest next.pages)
overlaps_vmem_false s = let x = s.first.high in let y = s.second.low in omega arith

pub overlaps_pmem_true : Says true (Share page.host page.pages page.host page.pages)
overlaps_pmem_true = record { page = 1; first = record { low = lit≤ tt; high = lit< tt }; second = record { low = lit≤ tt; high = lit< tt } }

pub overlaps_pmem_false : Says false (Share page.host page.pages next.host next.pages)
overlaps_pmem_false s = let x = s.first.high in let y = s.second.low in omega arith

-- ---- contains

pub contains_true : Says true (Contains page.guest page.pages 4095)
contains_true = record { low = lit≤ tt; high = lit< tt }

pub contains_false : Says false (Contains page.guest page.pages 4096)
contains_false c = let h = c.high in omega arith

-- ---- translate

pub translate_ok : TranslateSays page.guest page.host page.pages 5 (Ok 4101)
translate_ok = (record { low = lit≤ tt; high = lit< tt }, refl)

pub translate_outside : TranslateSays page.guest page.host page.pages 4096 (Err Untranslated.Outside)
translate_outside = contains_false

-- the second of two pages, of which the first is the host's last
pub translate_beyond : TranslateSays 0 18446744073709547520 2 4096 (Err Untranslated.Beyond)
translate_beyond = (record { low = lit≤ tt; high = lit< tt }, lit≤ tt)
