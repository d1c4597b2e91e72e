-- A region in memory: four words, guest start, host start, pages, and the kind's number. Assumes nothing.
use Rattle.std.specs.Prelude.{◌≡◌, List, ℕ, zero, suc, ◌+◌, length, get_or}
use Rattle.base.specs.Ranges.{Outside}
use Rattle.address.specs.declared.Kind.{Kind}
use Rattle.address.specs.declared.Region.{Region}

-- the kind with a number: 0 ordinary, 1 device, 2 shared. Every other number reads as shared
unfoldable pub kind_of : ℕ → Kind
kind_of zero = Kind.Ordinary
kind_of (suc zero) = Kind.Device
kind_of (suc (suc n)) = Kind.Shared

-- the number of a kind
unfoldable pub number_of : Kind → ℕ
number_of Kind.Ordinary = 0
number_of Kind.Device = 1
number_of Kind.Shared = 2

-- the region whose words are 0
abbrev pub nothing : Region
nothing = record { guest = 0; host = 0; pages = 0; kind = Kind.Ordinary }

-- the region in the words of t from `at` on
unfoldable pub region_of : List ℕ → ℕ → Region
region_of t at = record { guest = get_or t at 0; host = get_or t (at + 1) 0; pages = get_or t (at + 2) 0; kind = kind_of (get_or t (at + 3) 0) }

-- the words of t from `at` on are those of r
pub record HasRegion (t : List ℕ) (at : ℕ) (r : Region) : Type 0 where
  pub guest : get_or t at 0 ≡ r.guest
  pub host : get_or t (at + 1) 0 ≡ r.host
  pub pages : get_or t (at + 2) 0 ≡ r.pages
  pub kind : get_or t (at + 3) 0 ≡ number_of r.kind

-- t' is t with the words of r from `at` on
pub record Put (t : List ℕ) (at : ℕ) (r : Region) (t' : List ℕ) : Type 0 where
  pub long : length t' ≡ length t
  pub has : HasRegion t' at r
  pub others : (k : ℕ) → Outside at (at + 4) k → get_or t' k 0 ≡ get_or t k 0
