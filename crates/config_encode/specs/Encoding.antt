-- The bytes of a configuration c, field by field, as they are written: o are the bytes before, and o' after. Assumes nothing.
use Rattle.std.specs.Prelude.{◌≡◌, List, ℕ, zero, suc, ◌+◌, ◌*◌, ◌<◌, get_or}
use Rattle.base.specs.Ranges.{Only}
use Rattle.address.specs.declared.Region.{Region}
use Rattle.region_words.specs.Words.{number_of}
use Rattle.config_model.specs.Config.{Config}
use Rattle.config_bytes.specs.Fields.{le16, le64}

-- a number of w bytes, as f reads it, is written at `at`, and nothing else
pub record Wrote (f : List ℕ → ℕ → ℕ) (w : ℕ) (o : List ℕ) (at v : ℕ) (o' : List ℕ) : Type 0 where
  pub only : Only o at (at + w) o'
  pub is : f o' at ≡ v

-- the bytes of o from p on are those of r
pub record RegionBytes (o : List ℕ) (p : ℕ) (r : Region) : Type 0 where
  pub guest : le64 o p ≡ r.guest
  pub host : le64 o (p + 8) ≡ r.host
  pub pages : le64 o (p + 16) ≡ r.pages
  pub kind : get_or o (p + 24) 0 ≡ number_of r.kind

-- a region is written at p, and nothing else
pub record WroteRegion (o : List ℕ) (p : ℕ) (r : Region) (o' : List ℕ) : Type 0 where
  pub only : Only o p (p + 25) o'
  pub is : RegionBytes o' p r

-- the first n regions of machine m are written behind its number and count, which stand at p, and nothing else
pub record WroteRegions (c : Config) (m n p : ℕ) (o o' : List ℕ) : Type 0 where
  pub only : Only o (p + 4) (p + (4 + 25 * n)) o'
  pub each : (i : ℕ) → i < n → RegionBytes o' (p + (4 + 25 * i)) (c.region m i)

-- where the fields of machine m are written
unfoldable pub start_of : Config → ℕ → ℕ
start_of c zero = 2
start_of c (suc m) = start_of c m + (4 + 25 * c.count m)

-- how many bytes the configuration takes
abbrev pub size_of : Config → ℕ
size_of c = start_of c c.machines + 16

-- the bytes of o from p on are the fields of machine m
pub record MachineBytes (c : Config) (m p : ℕ) (o : List ℕ) : Type 0 where
  pub number : le16 o p ≡ c.number m
  pub count : le16 o (p + 2) ≡ c.count m
  pub regions : (i : ℕ) → i < c.count m → RegionBytes o (p + (4 + 25 * i)) (c.region m i)

-- the fields of machine m are written at p, and nothing else
pub record WroteMachine (c : Config) (m p : ℕ) (o o' : List ℕ) : Type 0 where
  pub only : Only o p (p + (4 + 25 * c.count m)) o'
  pub is : MachineBytes c m p o'

-- the fields of the first n machines are written, and nothing else behind the first two bytes
pub record WroteMachines (c : Config) (n : ℕ) (o o' : List ℕ) : Type 0 where
  pub only : Only o 2 (start_of c n) o'
  pub each : (m : ℕ) → m < n → MachineBytes c m (start_of c m) o'

-- the bytes of o are those of c
pub record Encodes (c : Config) (o : List ℕ) : Type 0 where
  pub machines : le16 o 0 ≡ c.machines
  pub each : (m : ℕ) → m < c.machines → MachineBytes c m (start_of c m) o
  pub host : le64 o (start_of c c.machines) ≡ c.pool.host
  pub pages : le64 o (start_of c c.machines + 8) ≡ c.pool.pages

-- they are written, and nothing else
pub record WroteAll (c : Config) (o o' : List ℕ) : Type 0 where
  pub only : Only o 0 (size_of c) o'
  pub is : Encodes c o'
