-- Every request has bytes: alone, and as the one member of a list. Assumes nothing.
use mathlib.Core.Path.{◌≡◌, refl}
use mathlib.Core.Bool.{true, false}
use mathlib.Core.List.{List, [], ◌∷◌}
use Prim.Native.Nat.{ℕ}
use native.Mathlib.Omega.{arith}
use lib.Dec.{lit≤, eqb}
use Rattle.config_bytes.specs.Fields.{le16, le32, le64}
use Rattle.config_examples.proofs.Strings.{put64}
use Rattle.machine.specs.declared.Which.TheVariants.{Processors, Devices}
use Rattle.machine.specs.declared.Request.{Request}
use Rattle.machine.specs.declared.Request.TheVariants.{AddZone, RemoveZone, RemoveZoneWhole, Insert, Remove, Translate, Alloc, AllocContiguous, Dealloc, DeallocContiguous}
use Rattle.request_bytes.specs.declared.Numbers.{Numbers}
use Rattle.std.specs.Prelude.{Some}
use Rattle.request_bytes.specs.Requests.{numbers_of, numbers_at, Means, ReadSays}
use Rattle.request_bytes.proofs.Laws.{numbers_once}
use Rattle.request_bytes.proofs.Theorems.{means_request}
use Rattle.call_bytes.specs.Calls.{is_list}

-- the bytes of an operation and its four numbers
abbrev of_numbers : Numbers → List ℕ
of_numbers n = n.op ∷ put64 n.a (put64 n.b (put64 n.c (put64 n.d [])))

-- the bytes of a request, and of a list of that request
abbrev pub alone : Request → List ℕ
alone q = of_numbers (numbers_of q)

abbrev pub listed : Request → List ℕ
listed q = 255 ∷ alone q

-- ---- what they mean

back : (n : Numbers) → numbers_at (of_numbers n) 0 ≡ n
unfolding numbers_at le64 le32 le16
back n = numbers_once (numbers_at (of_numbers n) 0) n refl (omega arith) (omega arith) (omega arith) (omega arith)

back_behind : (n : Numbers) → numbers_at (255 ∷ of_numbers n) 1 ≡ n
unfolding numbers_at le64 le32 le16
back_behind n = numbers_once (numbers_at (255 ∷ of_numbers n) 1) n refl (omega arith) (omega arith) (omega arith) (omega arith)

pub reads_alone : (q : Request) → ReadSays (alone q) 0 (Some q)
reads_alone q = (means_request means, means)
  where
    means : Means (alone q) 0 q
    means = record { whole = lit≤ tt; numbers = back (numbers_of q) }

pub reads_listed : (q : Request) → ReadSays (listed q) 1 (Some q)
reads_listed q = (means_request means, means)
  where
    means : Means (listed q) 1 q
    means = record { whole = lit≤ tt; numbers = back_behind (numbers_of q) }

-- ---- which of them is a list

-- no operation is the byte of a list
operation : (q : Request) → eqb (numbers_of q).op 255 ≡ false
operation AddZone = refl
operation RemoveZone = refl
operation RemoveZoneWhole = refl
operation (Insert Processors r) = refl
operation (Insert Devices r) = refl
operation (Remove Processors r) = refl
operation (Remove Devices r) = refl
operation (Translate Processors addr) = refl
operation (Translate Devices addr) = refl
operation Alloc = refl
operation (AllocContiguous n a) = refl
operation (Dealloc addr) = refl
operation (DeallocContiguous addr n) = refl

pub no_list : (q : Request) → is_list (alone q) 0 33 ≡ false
unfolding is_list
no_list q = operation q

pub is_list_lem : (q : Request) → is_list (listed q) 0 34 ≡ true
unfolding is_list
is_list_lem q = refl
