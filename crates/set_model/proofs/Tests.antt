-- What the tests of a region say. Assumes nothing.
use mathlib.Core.Path.{◌≡◌, refl, sym, ◌∙◌, ap}
use mathlib.Core.Bool.{Bool, true, false, ◌&&◌}
use denote.Enum.Bare.{sameb}
use Prim.Native.Nat.{ℕ, ◌+◌, ◌*◌, ◌/◌, ◌<◌, ◌≤◌}
use lib.Dec.{eqb, leb, ltb}
use native.Mathlib.Omega.{arith}
use native.Mathlib.Decide.{dec_lt}
use borrow.Author.Tests.{lt-ltb, le-leb, eq-eqb, eqb-true, leb-true, ltb-true}
use Rattle.base.specs.Says.{Says}
use Rattle.base.specs.Choices.{both}
use Rattle.base.proofs.Choices.{both_left, both_right, never}
use Rattle.address.specs.contracts.Kind.{the_type}
use Rattle.address.specs.declared.Kind.{Kind}
use Rattle.address.specs.declared.Region.{Region}
use Rattle.address.specs.Pages.{Share, Contains}
use Rattle.address.specs.Regions.{Valid}
use Rattle.region_words.specs.Words.{number_of}
use Rattle.region_words.proofs.Laws.{region_once, kind_once}
use Rattle.set_model.specs.Sets.{same, meets, covers}

-- a test of which both answers are known is the one that is said
pub as_said : {P : Type 0} (b c : Bool) → Says b P → (c ≡ true → P) → (P → c ≡ true) → c ≡ b
as_said true c s to back = back s
as_said false true s to back = absurd (s (to refl))
as_said false false s to back = refl

-- ---- the same region

pub same_is : (a b : Region) → same a b ≡ true → a ≡ b
unfolding same
same_is a b e =
    let g = eqb a.guest b.guest in
    let h = eqb a.host b.host in
    let p = eqb a.pages b.pages in
    let k = eqb (number_of a.kind) (number_of b.kind) in
    let e1 = both_right g (both h (both p k)) e in
    let e2 = both_right h (both p k) e1 in
    region_once a b (eqb-true a.guest b.guest (both_left g (both h (both p k)) e)) (eqb-true a.host b.host (both_left h (both p k) e1)) (eqb-true a.pages b.pages (both_left p k e2)) (kind_once a.kind b.kind (eqb-true (number_of a.kind) (number_of b.kind) (both_right p k e2)))

pub same_self : (a : Region) → same a a ≡ true
unfolding same
same_self a = rw (eq-eqb a.guest a.guest refl, eq-eqb a.host a.host refl, eq-eqb a.pages a.pages refl, eq-eqb (number_of a.kind) (number_of a.kind) refl)

pub same_equal : (a b : Region) → a ≡ b → same a b ≡ true
same_equal a b e = ap (same a) (sym e) ∙ same_self a

pub same_said : (a b : Region) (t : Bool) → Says t (a ≡ b) → same a b ≡ t
same_said a b t s = as_said t (same a b) s (same_is a b) (same_equal a b)

-- `==` of two regions is the same test
both_and : (x y : Bool) → both x y ≡ (x && y)
both_and true y = refl
both_and false y = refl

kind_same : (k l : Kind) → eqb (number_of k) (number_of l) ≡ sameb the_type k l
unfolding number_of
kind_same Kind.Ordinary Kind.Ordinary = refl
kind_same Kind.Ordinary Kind.Device = refl
kind_same Kind.Ordinary Kind.Shared = refl
kind_same Kind.Device Kind.Ordinary = refl
kind_same Kind.Device Kind.Device = refl
kind_same Kind.Device Kind.Shared = refl
kind_same Kind.Shared Kind.Ordinary = refl
kind_same Kind.Shared Kind.Device = refl
kind_same Kind.Shared Kind.Shared = refl

pub same_equals : (a b : Region) {t : Bool} → t ≡ (eqb a.guest b.guest && (eqb a.host b.host && (eqb a.pages b.pages && sameb the_type a.kind b.kind))) → same a b ≡ t
unfolding same
same_equals a b e =
    let g = eqb a.guest b.guest in
    let h = eqb a.host b.host in
    let p = eqb a.pages b.pages in
    let k = eqb (number_of a.kind) (number_of b.kind) in
    both_and g (both h (both p k)) ∙ (ap (λ (x : Bool). g && x) (both_and h (both p k) ∙ ap (λ (x : Bool). h && x) (both_and p k ∙ ap (λ (x : Bool). p && x) (kind_same a.kind b.kind))) ∙ sym e)

-- ---- regions that have a guest page in common

pub meets_share : (a b : Region) → meets a b ≡ true → Share a.guest a.pages b.guest b.pages
unfolding meets
meets_share a b e =
    let p = ltb 0 a.pages in
    let q = ltb 0 b.pages in
    let x = ltb (a.guest / 4096) (b.guest / 4096 + b.pages) in
    let y = ltb (b.guest / 4096) (a.guest / 4096 + a.pages) in
    let e1 = both_right p (both q (both x y)) e in
    let e2 = both_right q (both x y) e1 in
    go (ltb-true 0 a.pages (both_left p (both q (both x y)) e)) (ltb-true 0 b.pages (both_left q (both x y) e1)) (ltb-true (a.guest / 4096) (b.guest / 4096 + b.pages) (both_left x y e2)) (ltb-true (b.guest / 4096) (a.guest / 4096 + a.pages) (both_right x y e2)) (dec_lt (a.guest / 4096) (b.guest / 4096))
  where
    go : 0 < a.pages → 0 < b.pages → a.guest / 4096 < b.guest / 4096 + b.pages → b.guest / 4096 < a.guest / 4096 + a.pages → Dec (a.guest / 4096 < b.guest / 4096) → Share a.guest a.pages b.guest b.pages
    go pa pb x y (yes l) = record { page = b.guest / 4096; first = record { low = omega arith; high = y }; second = record { low = omega arith; high = omega arith } }
    go pa pb x y (no l) = record { page = a.guest / 4096; first = record { low = omega arith; high = omega arith }; second = record { low = omega arith; high = x } }

pub share_meets : (a b : Region) → Share a.guest a.pages b.guest b.pages → meets a b ≡ true
unfolding meets
share_meets a b s =
    let al = s.first.low in
    let ah = s.first.high in
    let bl = s.second.low in
    let bh = s.second.high in
    rw (lt-ltb 0 a.pages (omega arith), lt-ltb 0 b.pages (omega arith), lt-ltb (a.guest / 4096) (b.guest / 4096 + b.pages) (omega arith), lt-ltb (b.guest / 4096) (a.guest / 4096 + a.pages) (omega arith))

pub meets_said : (a b : Region) (t : Bool) → Says t (Share a.guest a.pages b.guest b.pages) → meets a b ≡ t
meets_said a b t s = as_said t (meets a b) s (meets_share a b) (share_meets a b)

-- it does not matter which of the two is named first
pub meets_turn : (a b : Region) → meets a b ≡ false → meets b a ≡ false
meets_turn a b e = go (meets b a) refl
  where
    go : (c : Bool) → meets b a ≡ c → c ≡ false
    go true f = let s = meets_share b a f in never (sym (share_meets a b (record { page = s.page; first = s.second; second = s.first })) ∙ e)
    go false f = refl

-- a region with a page meets itself
pub meets_self : (a : Region) → 0 < a.pages → meets a a ≡ true
meets_self a l = share_meets a a (record { page = a.guest / 4096; first = record { low = omega arith; high = omega arith }; second = record { low = omega arith; high = omega arith } })

-- of two valid regions that do not meet, the one that starts first ends before the other starts
pub apart : (a b : Region) → Valid a.guest a.host a.pages → Valid b.guest b.host b.pages → meets a b ≡ false → a.guest ≤ b.guest → a.guest + 4096 * a.pages ≤ b.guest
apart a b v w e l = go (dec_lt b.guest (a.guest + 4096 * a.pages))
  where
    go : Dec (b.guest < a.guest + 4096 * a.pages) → a.guest + 4096 * a.pages ≤ b.guest
    go (no g) = omega (arith, g)
    go (yes h) =
        let pa = v.on.some in
        let pb = w.on.some in
        let ga = v.on.guest_start in
        let gb = w.on.guest_start in
        never (sym (share_meets a b (record { page = b.guest / 4096; first = record { low = omega arith; high = omega arith }; second = record { low = omega arith; high = omega arith } })) ∙ e)

-- ---- a guest address in a region

pub covers_contains : (addr : ℕ) (r : Region) → covers addr r ≡ true → Contains r.guest r.pages addr
unfolding covers
covers_contains addr r e = record { low = leb-true r.guest addr (both_left (leb r.guest addr) (ltb addr (r.guest + 4096 * r.pages)) e); high = ltb-true addr (r.guest + 4096 * r.pages) (both_right (leb r.guest addr) (ltb addr (r.guest + 4096 * r.pages)) e) }

pub contains_covers : (addr : ℕ) (r : Region) → Contains r.guest r.pages addr → covers addr r ≡ true
unfolding covers
contains_covers addr r c = rw (le-leb r.guest addr c.low, lt-ltb addr (r.guest + 4096 * r.pages) c.high)
