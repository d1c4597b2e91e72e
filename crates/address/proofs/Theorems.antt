-- What is proved of ranges, regions and translation, from the definitions alone: the laws that the original states of its regions, and
-- that pages and addresses say the same of a valid region. Assumes nothing.
use mathlib.Core.Path.{◌≡◌, refl, sym, ◌∙◌}
use Prim.Native.Nat.{ℕ, ◌+◌, ◌-◌, ◌*◌, ◌/◌, ◌%◌, ◌^◌, ◌≤◌, ◌<◌}
use native.Mathlib.Omega.{arith}
use borrow.Author.Tests.{eq-eqb, ne_eqb, lt-ltb, le-ltb}
use lib.Dec.{eqb, ltb}
use Rattle.std.specs.Prelude.{Result, Ok, Err}
use Rattle.base.specs.Choices.{pick}
use Rattle.address.specs.Pages.{InPages, Share, Contains}
use Rattle.address.specs.Regions.{Valid, ValiditySays, host_of}
use Rattle.address.specs.declared.Fault.{Fault}

-- ---- pages and addresses

-- an address is in a range that starts on a page exactly if its page is
pub page_in : {start pages addr : ℕ} → start % 4096 ≡ 0 → Contains start pages addr → InPages start pages (addr / 4096)
page_in s c = record { low = omega arith; high = omega arith }

pub address_in_lem : {start pages addr : ℕ} → start % 4096 ≡ 0 → InPages start pages (addr / 4096) → Contains start pages addr
address_in_lem s i = record { low = omega arith; high = omega arith }

-- two ranges that start on pages share a page exactly if they share an address
pub shared_address : {s1 p1 s2 p2 addr : ℕ} → s1 % 4096 ≡ 0 → s2 % 4096 ≡ 0 → Contains s1 p1 addr → Contains s2 p2 addr → Share s1 p1 s2 p2
shared_address {addr = addr} a b c d = record { page = addr / 4096; first = page_in a c; second = page_in b d }

pub shared_page : {s1 p1 s2 p2 : ℕ} → s1 % 4096 ≡ 0 → s2 % 4096 ≡ 0 → Share s1 p1 s2 p2 → (addr : ℕ) × Contains s1 p1 addr × Contains s2 p2 addr
shared_page a b s =
    let i = s.first in
    let j = s.second in
    (4096 * s.page, record { low = omega arith; high = omega arith }, record { low = omega arith; high = omega arith })

-- sharing is mutual
pub share_mutual : {s1 p1 s2 p2 : ℕ} → Share s1 p1 s2 p2 → Share s2 p2 s1 p1
share_mutual s = record { page = s.page; first = s.second; second = s.first }

-- a range with a page shares it with itself
pub share_self : {s p : ℕ} → 0 < p → Share s p s p
share_self {s} h = record { page = s / 4096; first = record { low = omega arith; high = omega arith }; second = record { low = omega arith; high = omega arith } }

-- ---- the pages of a region

-- the address at which page i of a range starts
abbrev pub page_start : ℕ → ℕ → ℕ
page_start start i = start + 4096 * i

-- two pages of a range start at two addresses
pub page_start_once : (start i j : ℕ) → page_start start i ≡ page_start start j → i ≡ j
page_start_once start i j e = omega arith

-- the pages of two ranges that share none start at different addresses
pub pages_disjoint : {s1 p1 s2 p2 i j : ℕ} → s1 % 4096 ≡ 0 → s2 % 4096 ≡ 0 → (Share s1 p1 s2 p2 → ⊥) → i < p1 → j < p2 → page_start s1 i ≡ page_start s2 j → ⊥
pages_disjoint {s1} {p1} {s2} {p2} {i} {j} a b apart l h e =
    apart (record { page = s1 / 4096 + i; first = record { low = omega arith; high = omega arith }; second = record { low = omega arith; high = omega arith } })

-- the guest page that starts at v is the host page that starts at h
pub record Maps (guest host pages v h : ℕ) : Type 0 where
  pub page : ℕ
  pub within : page < pages
  pub from : v ≡ page_start guest page
  pub to : h ≡ page_start host page

-- each page of a region is mapped to its host page, and no guest page to two
pub maps_each : {guest host pages : ℕ} (i : ℕ) → i < pages → Maps guest host pages (page_start guest i) (page_start host i)
maps_each i l = record { page = i; within = l; from = refl; to = refl }

pub maps_once : {guest host pages v h h' : ℕ} → Maps guest host pages v h → Maps guest host pages v h' → h ≡ h'
maps_once a b =
    let p = a.from in
    let q = b.from in
    let r = a.to in
    let s = b.to in omega arith

-- ---- translation

-- it does not leave the host's range
pub stays_inside : {guest host pages addr : ℕ} → Contains guest pages addr → Contains host pages (host_of guest host addr)
stays_inside c = record { low = omega arith; high = omega arith }

-- it is one to one
pub one_to_one : {guest pages a b : ℕ} (host : ℕ) → Contains guest pages a → Contains guest pages b → host_of guest host a ≡ host_of guest host b → a ≡ b
one_to_one host c d e = omega arith

-- every host address of the range is the translation of a guest address of the region
pub onto : {guest host pages h : ℕ} → Contains host pages h → (addr : ℕ) × Contains guest pages addr × (host_of guest host addr ≡ h)
onto {guest} {host} {pages} {h} c = (guest + (h - host), record { low = omega arith; high = omega arith }, omega arith)

-- of a valid region it fits 64 bits
pub host_fits : {guest host pages addr : ℕ} → Valid guest host pages → Contains guest pages addr → host_of guest host addr < 2 ^ 64
host_fits v c = omega arith

-- it goes page by page, as `Maps` says
pub translates_pages : {guest host pages v h : ℕ} → Maps guest host pages v h → Contains guest pages v × (h ≡ host_of guest host v)
translates_pages m =
    let l = m.within in
    let p = m.from in
    let q = m.to in (record { low = omega arith; high = omega arith }, omega arith)

-- ---- validity

-- the first condition that a region breaks, if it breaks one, computed
first_fault : ℕ → ℕ → ℕ → Result (Unit {0}) Fault
first_fault guest host pages =
    pick (eqb pages 0) (Err Fault.NoPage)
    (pick (eqb (guest % 4096) 0)
    (pick (eqb (host % 4096) 0)
    (pick (ltb (guest + 4096 * pages) 18446744073709551616)
    (pick (ltb (host + 4096 * pages) 18446744073709551616) (Ok tt) (Err Fault.HostEnd)) (Err Fault.GuestEnd)) (Err Fault.HostStart)) (Err Fault.GuestStart))

not_below : (a b : ℕ) → (a < b → ⊥) → b ≤ a
not_below a b n = omega (arith, n)

fault_is : (guest host pages : ℕ) (r : Result (Unit {0}) Fault) → ValiditySays guest host pages r → first_fault guest host pages ≡ r
unfolding first_fault
fault_is g h p (Ok tt) v =
    simp (ne_eqb p 0 (λ e. omega arith), eq-eqb (g % 4096) 0 v.on.guest_start, eq-eqb (h % 4096) 0 v.on.host_start, lt-ltb (g + 4096 * p) 18446744073709551616 v.guest_end, lt-ltb (h + 4096 * p) 18446744073709551616 v.host_end)
fault_is g h p (Err Fault.NoPage) v = simp (eq-eqb p 0 v)
fault_is g h p (Err Fault.GuestStart) v = simp (ne_eqb p 0 (λ e. omega arith), ne_eqb (g % 4096) 0 v.1)
fault_is g h p (Err Fault.HostStart) v = simp (ne_eqb p 0 (λ e. omega arith), eq-eqb (g % 4096) 0 v.1, ne_eqb (h % 4096) 0 v.2)
fault_is g h p (Err Fault.GuestEnd) v =
    simp (ne_eqb p 0 (λ e. omega arith), eq-eqb (g % 4096) 0 v.0.guest_start, eq-eqb (h % 4096) 0 v.0.host_start, le-ltb (g + 4096 * p) 18446744073709551616 (not_below _ _ v.1))
fault_is g h p (Err Fault.HostEnd) v =
    simp (ne_eqb p 0 (λ e. omega arith), eq-eqb (g % 4096) 0 v.0.guest_start, eq-eqb (h % 4096) 0 v.0.host_start, lt-ltb (g + 4096 * p) 18446744073709551616 v.1, le-ltb (h + 4096 * p) 18446744073709551616 (not_below _ _ v.2))

-- what is said of a region is said of one answer
pub fault_once : (guest host pages : ℕ) (r r' : Result (Unit {0}) Fault) → ValiditySays guest host pages r → ValiditySays guest host pages r' → r ≡ r'
fault_once g h p r r' x y = sym (fault_is g h p r x) ∙ fault_is g h p r' y
