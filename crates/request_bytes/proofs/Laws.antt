-- A request is read back from its numbers, and numbers by their parts. Assumes nothing.
use mathlib.Core.Path.{◌≡◌, refl, sym, ap, subst, ◌∙◌}
use mathlib.Core.List.{List}
use Prim.Native.Nat.{ℕ}
use mathlib.Core.Bool.{false, ◌&&◌, true≢false}
use borrow.Author.Tests.{eq-eqb}
use Rattle.std.specs.Prelude.{eqb, Option, Some, None, IsSome}
use Rattle.address.specs.declared.Region.{Region}
use Rattle.region_words.proofs.Laws.{kind_back, region_once}
use Rattle.machine.specs.declared.Which.TheVariants.{Processors, Devices}
use Rattle.machine.specs.declared.Request.{Request}
use Rattle.machine.specs.declared.Request.TheVariants.{AddZone, RemoveZone, RemoveZoneWhole, Insert, Remove, Translate, Alloc, AllocContiguous, Dealloc, DeallocContiguous}
use Rattle.machine_codes.specs.Codes.{which_of}
use Rattle.request_bytes.specs.declared.Numbers.{Numbers}
use Rattle.request_bytes.specs.Requests.{of_region, numbers_of, numbers_at, Means, region_in, request_of, request_at, ReadSays}

-- two fives with the same parts are one
pub numbers_once : (n m : Numbers) → n.op ≡ m.op → n.a ≡ m.a → n.b ≡ m.b → n.c ≡ m.c → n.d ≡ m.d → n ≡ m
numbers_once n m o e f g h = λ i. record { op = o i; a = e i; b = f i; c = g i; d = h i }

-- fives whose parts are not all the same are two
pub numbers_differ : (n m : Numbers) → false ≡ eqb m.op n.op && (eqb m.a n.a && (eqb m.b n.b && (eqb m.c n.c && eqb m.d n.d))) → n ≡ m → ⊥
numbers_differ n m f e =
    let g = sym e in
    true≢false (sym (f ∙ simp (
      eq-eqb m.op n.op (ap (λ (x : Numbers). x.op) g),
      eq-eqb m.a n.a (ap (λ (x : Numbers). x.a) g),
      eq-eqb m.b n.b (ap (λ (x : Numbers). x.b) g),
      eq-eqb m.c n.c (ap (λ (x : Numbers). x.c) g),
      eq-eqb m.d n.d (ap (λ (x : Numbers). x.d) g),
    )))

-- a region is read back from its numbers
region_back : (op : ℕ) (r : Region) → region_in (of_region op r) ≡ r
region_back op r = region_once _ _ refl refl refl (kind_back r.kind)

-- a request is read back from its numbers
pub request_back : (q : Request) → request_of (numbers_of q) ≡ q
unfolding request_of which_of
request_back AddZone = refl
request_back RemoveZone = refl
request_back RemoveZoneWhole = refl
request_back (Insert Processors r) = ap (Insert Processors) (region_back 3 r)
request_back (Remove Processors r) = ap (Remove Processors) (region_back 4 r)
request_back (Insert Devices r) = ap (Insert Devices) (region_back 5 r)
request_back (Remove Devices r) = ap (Remove Devices) (region_back 6 r)
request_back (Translate Processors addr) = refl
request_back (Translate Devices addr) = refl
request_back Alloc = refl
request_back (AllocContiguous size align) = refl
request_back (Dealloc addr) = refl
request_back (DeallocContiguous addr count) = refl

-- bytes whose numbers are not those of the request that they are read as mean none
pub not_meant : {s : List ℕ} {p : ℕ} {n m : Numbers} {q : Request} → n ≡ numbers_at s p → q ≡ request_of n → m ≡ numbers_of q → (n ≡ m → ⊥)
    → (q' : Request) → Means s p q' → ⊥
not_meant e f g h q' w =
    let k = e ∙ w.numbers in
    h (k ∙ sym (g ∙ ap numbers_of (f ∙ (ap request_of k ∙ request_back q'))))

-- bytes that mean a request are read
pub read_some : (s : List ℕ) (p : ℕ) (r : Option Request) → ReadSays s p r → Means s p (request_at s p) → IsSome r
read_some s p (Some q) h m = refl
read_some s p None h m = absurd (h _ m)

-- and what is read of any bytes is the request that they are read as
pub read_is : (s : List ℕ) (p : ℕ) (r : Option Request) {q : Request} → ReadSays s p r → r ≡ Some q → q ≡ request_at s p
read_is s p r h e = (subst (λ (x : Option Request). ReadSays s p x) e h).0
