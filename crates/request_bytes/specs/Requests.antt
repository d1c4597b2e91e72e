-- What bytes mean as a request. A request is 33 bytes: a byte that says which operation, and four numbers of 8 bytes, little-endian. What an
-- operation does not use is 0. `numbers_of` says it all. Assumes nothing.
use Rattle.std.specs.Prelude.{◌≡◌, List, ℕ, ◌+◌, ◌*◌, ◌≤◌, ◌<◌, length, get_or, eqb, Option, Some, None}
use Rattle.base.specs.Choices.{pick}
use Rattle.address.specs.declared.Region.{Region}
use Rattle.region_words.specs.Words.{kind_of, number_of}
use Rattle.config_bytes.specs.Fields.{le64}
use Rattle.machine.specs.declared.Which.TheVariants.{Processors, Devices}
use Rattle.machine.specs.declared.Request.{Request}
use Rattle.machine.specs.declared.Request.TheVariants.{AddZone, RemoveZone, RemoveZoneWhole, Insert, Remove, Translate, Alloc, AllocContiguous, Dealloc, DeallocContiguous}
use Rattle.machine_codes.specs.Codes.{which_of}
use Rattle.request_bytes.specs.declared.Numbers.{Numbers}

-- an operation and its four numbers
abbrev pub five : ℕ → ℕ → ℕ → ℕ → ℕ → Numbers
five op a b c d = record { op = op; a = a; b = b; c = c; d = d }

-- an operation on a region
abbrev pub of_region : ℕ → Region → Numbers
of_region op r = five op r.guest r.host r.pages (number_of r.kind)

-- the numbers of a request
abbrev pub numbers_of : Request → Numbers
numbers_of AddZone = five 0 0 0 0 0
numbers_of RemoveZone = five 1 0 0 0 0
numbers_of RemoveZoneWhole = five 2 0 0 0 0
numbers_of (Insert Processors r) = of_region 3 r
numbers_of (Remove Processors r) = of_region 4 r
numbers_of (Insert Devices r) = of_region 5 r
numbers_of (Remove Devices r) = of_region 6 r
numbers_of (Translate Processors addr) = five 7 addr 0 0 0
numbers_of (Translate Devices addr) = five 7 addr 1 0 0
numbers_of Alloc = five 8 0 0 0 0
numbers_of (AllocContiguous size align) = five 9 size align 0 0
numbers_of (Dealloc addr) = five 10 addr 0 0 0
numbers_of (DeallocContiguous addr count) = five 11 addr count 0 0

-- the numbers in the 33 bytes from p on
unfoldable pub numbers_at : List ℕ → ℕ → Numbers
numbers_at s p = five (get_or s p 0) (le64 s (p + 1)) (le64 s (p + 9)) (le64 s (p + 17)) (le64 s (p + 25))

-- the bytes from p on mean the request q: they are there, and their numbers are those of q
pub record Means (s : List ℕ) (p : ℕ) (q : Request) : Type 0 where
  pub whole : p + 33 ≤ length s
  pub numbers : numbers_at s p ≡ numbers_of q

-- the region that the four numbers are read as
abbrev pub region_in : Numbers → Region
region_in n = record { guest = n.a; host = n.b; pages = n.c; kind = kind_of n.d }

-- what numbers are read as, by their operation. Numbers of no request are read as some request
abbrev pub read_as : ℕ → Numbers → Request
read_as op n =
    pick (eqb op 0) AddZone
    (pick (eqb op 1) RemoveZone
    (pick (eqb op 2) RemoveZoneWhole
    (pick (eqb op 3) (Insert Processors (region_in n))
    (pick (eqb op 4) (Remove Processors (region_in n))
    (pick (eqb op 5) (Insert Devices (region_in n))
    (pick (eqb op 6) (Remove Devices (region_in n))
    (pick (eqb op 7) (Translate (which_of n.b) n.a)
    (pick (eqb op 8) Alloc
    (pick (eqb op 9) (AllocContiguous n.a n.b)
    (pick (eqb op 10) (Dealloc n.a) (DeallocContiguous n.a n.b)))))))))))

-- the request that numbers are read as
unfoldable pub request_of : Numbers → Request
request_of n = read_as n.op n

-- the request that the bytes from p on are read as. Where they mean a request, it is this one (proofs/Theorems.antt)
abbrev pub request_at : List ℕ → ℕ → Request
request_at s p = request_of (numbers_at s p)

-- what reading the bytes from p on says: the request that they mean, or that they mean none
abbrev pub ReadSays : List ℕ → ℕ → Option Request → Type 0
ReadSays s p (Some q) = (q ≡ request_at s p) × Means s p q
ReadSays s p None = (q : Request) → Means s p q → ⊥

-- request i of those in the bytes from p on, 33 for each
abbrev pub nth_request : List ℕ → ℕ → ℕ → Request
nth_request s p i = request_at s (p + 33 * i)

-- the bytes from p on mean n requests, one behind the other
pub record MeansAll (s : List ℕ) (p n : ℕ) : Type 0 where
  pub within : p + 33 * n ≤ length s
  pub right : (i : ℕ) → i < n → Means s (p + 33 * i) (nth_request s p i)
