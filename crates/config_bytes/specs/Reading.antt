-- What reading the fields from front to back finds first. Each definition reads one thing, and `next` is what is found behind it.
-- `proofs/Laws.antt` shows that nothing is found exactly if the bytes are `Readable`. Assumes nothing.
use Rattle.std.specs.Prelude.{List, ℕ, zero, suc, ◌+◌, ◌*◌, length, get_or, leb, Result, Ok, Err, ⊤}
use Rattle.base.specs.Choices.{pick}
use Rattle.config_bytes.specs.Fields.{le16, machines}
use Rattle.config_bytes.specs.declared.Misread.{Misread}

-- what reading finds: nothing wrong, or what is
abbrev pub Read : Type 0
Read = Result ⊤ Misread

-- r, and behind it next, where nothing is wrong in r
abbrev pub after : Read → Read → Read
after (Ok _) next = next
after (Err e) next = Err e

-- a field of `size` bytes at `at`
abbrev pub field : List ℕ → ℕ → ℕ → Read → Read
field s at size next = pick (leb (at + size) (length s)) next (Err (Misread.TooShort at))

-- region i of machine m, at `at`
unfoldable pub region_read : List ℕ → ℕ → ℕ → ℕ → Read → Read
region_read s m i at next =
    field s at 8 (field s (at + 8) 8 (field s (at + 16) 8 (field s (at + 24) 1 (pick (leb (get_or s (at + 24) 0) 2) next (Err (Misread.UnknownKind m i))))))

-- so many regions of machine m, from region i on, at `at`
unfoldable pub regions_read : ℕ → List ℕ → ℕ → ℕ → ℕ → Read → Read
regions_read zero s m i at next = next
regions_read (suc left) s m i at next = region_read s m i at (regions_read left s m (suc i) (at + 25) next)

-- machine m, at `at`
unfoldable pub machine_read : List ℕ → ℕ → ℕ → Read → Read
machine_read s m at next =
    field s at 2 (field s (at + 2) 2 (pick (leb (le16 s (at + 2)) 32) (regions_read (le16 s (at + 2)) s m 0 (at + 4) next) (Err (Misread.TooManyRegions m))))

-- so many machines, from machine m on, at `at`, and behind them the allocator's region
unfoldable pub machines_read : ℕ → List ℕ → ℕ → ℕ → Read
machines_read zero s m at = field s at 8 (field s (at + 8) 8 (Ok tt))
machines_read (suc left) s m at = machine_read s m at (machines_read left s (suc m) (at + (4 + 25 * le16 s (at + 2))))

-- all fields
unfoldable pub read_of : List ℕ → Read
read_of s = field s 0 2 (pick (leb (machines s) 64) (machines_read (machines s) s 0 2) (Err Misread.TooManyMachines))
