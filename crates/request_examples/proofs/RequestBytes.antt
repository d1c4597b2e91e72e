-- An example of every answer that reading a request from bytes can give. Assumes nothing.
use mathlib.Core.Path.{refl}
use mathlib.Core.List.{List, [], ◌∷◌}
use Prim.Native.Nat.{ℕ, ◌/◌, ◌%◌}
use native.Mathlib.Omega.{arith}
use lib.Dec.{lit≤}
use Rattle.address.specs.declared.Kind.{Kind}
use Rattle.address.specs.declared.Region.{Region}
use Rattle.region_words.specs.Words as words
use Rattle.config_bytes.specs.Fields as fields
use Rattle.machine.specs.declared.Which.TheVariants.{Processors, Devices}
use Rattle.machine.specs.declared.Request.TheVariants.{AddZone, RemoveZone, RemoveZoneWhole, Insert, Remove, Translate, Alloc, AllocContiguous, Dealloc, DeallocContiguous}
use Rattle.machine_codes.specs.Codes as codes
use Rattle.request_bytes.specs.Requests as requests
use Rattle.request_bytes.specs.Requests.{ReadSays}
use Rattle.std.specs.Prelude.{Some, None}

-- a number below 65536 in eight bytes, before further bytes
abbrev put : ℕ → List ℕ → List ℕ
put n s = n % 256 ∷ n / 256 ∷ 0 ∷ 0 ∷ 0 ∷ 0 ∷ 0 ∷ 0 ∷ s

-- the 33 bytes of an operation and four numbers
abbrev pub request : ℕ → ℕ → ℕ → ℕ → ℕ → List ℕ
request op a b c d = op ∷ put a (put b (put c (put d [])))

-- a page
abbrev pub page : Region
page = record { guest = 0; host = 4096; pages = 1; kind = Kind.Ordinary }

pub read_at_some_add_zone : ReadSays (request 0 0 0 0 0) 0 (Some AddZone)
unfolding requests.numbers_at requests.request_of fields.le64 fields.le32 fields.le16
read_at_some_add_zone = (refl, record { whole = lit≤ tt; numbers = refl })

pub read_at_some_remove_zone : ReadSays (request 1 0 0 0 0) 0 (Some RemoveZone)
unfolding requests.numbers_at requests.request_of fields.le64 fields.le32 fields.le16
read_at_some_remove_zone = (refl, record { whole = lit≤ tt; numbers = refl })

pub read_at_some_remove_zone_whole : ReadSays (request 2 0 0 0 0) 0 (Some RemoveZoneWhole)
unfolding requests.numbers_at requests.request_of fields.le64 fields.le32 fields.le16
read_at_some_remove_zone_whole = (refl, record { whole = lit≤ tt; numbers = refl })

pub read_at_some_insert_processors : ReadSays (request 3 0 4096 1 0) 0 (Some (Insert Processors page))
unfolding requests.numbers_at requests.request_of fields.le64 fields.le32 fields.le16 words.kind_of words.number_of
read_at_some_insert_processors = (refl, record { whole = lit≤ tt; numbers = refl })

pub read_at_some_remove_processors : ReadSays (request 4 0 4096 1 0) 0 (Some (Remove Processors page))
unfolding requests.numbers_at requests.request_of fields.le64 fields.le32 fields.le16 words.kind_of words.number_of
read_at_some_remove_processors = (refl, record { whole = lit≤ tt; numbers = refl })

pub read_at_some_insert_devices : ReadSays (request 5 0 4096 1 0) 0 (Some (Insert Devices page))
unfolding requests.numbers_at requests.request_of fields.le64 fields.le32 fields.le16 words.kind_of words.number_of
read_at_some_insert_devices = (refl, record { whole = lit≤ tt; numbers = refl })

pub read_at_some_remove_devices : ReadSays (request 6 0 4096 1 0) 0 (Some (Remove Devices page))
unfolding requests.numbers_at requests.request_of fields.le64 fields.le32 fields.le16 words.kind_of words.number_of
read_at_some_remove_devices = (refl, record { whole = lit≤ tt; numbers = refl })

pub read_at_some_translate_processors : ReadSays (request 7 5 0 0 0) 0 (Some (Translate Processors 5))
unfolding requests.numbers_at requests.request_of fields.le64 fields.le32 fields.le16 codes.which_of
read_at_some_translate_processors = (refl, record { whole = lit≤ tt; numbers = refl })

pub read_at_some_translate_devices : ReadSays (request 7 5 1 0 0) 0 (Some (Translate Devices 5))
unfolding requests.numbers_at requests.request_of fields.le64 fields.le32 fields.le16 codes.which_of
read_at_some_translate_devices = (refl, record { whole = lit≤ tt; numbers = refl })

pub read_at_some_alloc : ReadSays (request 8 0 0 0 0) 0 (Some Alloc)
unfolding requests.numbers_at requests.request_of fields.le64 fields.le32 fields.le16
read_at_some_alloc = (refl, record { whole = lit≤ tt; numbers = refl })

pub read_at_some_alloc_contiguous : ReadSays (request 9 2 1 0 0) 0 (Some (AllocContiguous 2 1))
unfolding requests.numbers_at requests.request_of fields.le64 fields.le32 fields.le16
read_at_some_alloc_contiguous = (refl, record { whole = lit≤ tt; numbers = refl })

pub read_at_some_dealloc : ReadSays (request 10 4096 0 0 0) 0 (Some (Dealloc 4096))
unfolding requests.numbers_at requests.request_of fields.le64 fields.le32 fields.le16
read_at_some_dealloc = (refl, record { whole = lit≤ tt; numbers = refl })

pub read_at_some_dealloc_contiguous : ReadSays (request 11 4096 2 0 0) 0 (Some (DeallocContiguous 4096 2))
unfolding requests.numbers_at requests.request_of fields.le64 fields.le32 fields.le16
read_at_some_dealloc_contiguous = (refl, record { whole = lit≤ tt; numbers = refl })

-- the bytes end before the request does
pub read_at_none : ReadSays (request 8 0 0 0 0) 1 None
read_at_none q m = let w = m.whole in omega arith
