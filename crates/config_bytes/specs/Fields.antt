-- Which configuration bytes are: the fields, little-endian, one behind the other. A count of machines (2 bytes); for each machine its number
-- (2), a count of regions (2), and for each region guest start, host start, pages (8 each) and kind (1); at the end the host start and the
-- pages (8 each) of the allocator's region. Assumes nothing.
use Rattle.std.specs.Prelude.{◌≡◌, List, ℕ, zero, suc, ◌+◌, ◌*◌, ◌≤◌, ◌<◌, length, get_or}
use Rattle.address.specs.declared.Kind.{Kind}
use Rattle.address.specs.declared.Region.{Region}
use Rattle.region_words.specs.Words.{kind_of}
use Rattle.config_model.specs.Config.{Config}

-- the numbers in the 2, 4 and 8 bytes from `at` on
unfoldable pub le16 : List ℕ → ℕ → ℕ
le16 s at = get_or s at 0 + 256 * get_or s (at + 1) 0

unfoldable pub le32 : List ℕ → ℕ → ℕ
le32 s at = le16 s at + 65536 * le16 s (at + 2)

unfoldable pub le64 : List ℕ → ℕ → ℕ
le64 s at = le32 s at + 4294967296 * le32 s (at + 4)

-- the region in the 25 bytes from `at` on
unfoldable pub region_at : List ℕ → ℕ → Region
region_at s at = record { guest = le64 s at; host = le64 s (at + 8); pages = le64 s (at + 16); kind = kind_of (get_or s (at + 24) 0) }

-- the number of machines
abbrev pub machines : List ℕ → ℕ
machines s = le16 s 0

-- where the fields of machine m start: behind the number of machines and the fields of the machines before it
unfoldable pub offset : List ℕ → ℕ → ℕ
offset s zero = 2
offset s (suc m) = offset s m + (4 + 25 * le16 s (offset s m + 2))

-- how many regions machine m has
abbrev pub count : List ℕ → ℕ → ℕ
count s m = le16 s (offset s m + 2)

-- where the fields of the allocator's region start
abbrev pub tail : List ℕ → ℕ
tail s = offset s (machines s)

-- the configuration in the bytes
abbrev pub config_of : List ℕ → Config
config_of s =
    record {
      machines = machines s;
      number = λ m. le16 s (offset s m);
      count = λ m. count s m;
      region = λ m i. region_at s (offset s m + (4 + 25 * i));
      pool = record { guest = 0; host = le64 s (tail s); pages = le64 s (tail s + 8); kind = Kind.Ordinary };
    }

-- machine m has at most 32 regions, all of known kinds, and its fields are whole
pub record Part (s : List ℕ) (m : ℕ) : Type 0 where
  pub few : count s m ≤ 32
  pub whole : offset s (suc m) ≤ length s
  pub kinds : (i : ℕ) → i < count s m → get_or s (offset s m + (4 + 25 * i) + 24) 0 ≤ 2

-- there are at most 64 machines, and every field is whole and allowed
pub record Readable (s : List ℕ) : Type 0 where
  pub few : machines s ≤ 64
  pub parts : (m : ℕ) → m < machines s → Part s m
  pub pool : tail s + 16 ≤ length s

-- the bytes mean a configuration, which is `config_of s`: every field is whole and allowed, and no byte is left over
pub record Means (s : List ℕ) : Type 0 where
  pub readable : Readable s
  pub exact : length s ≡ tail s + 16
