-- The table of a configuration: 8325 words. Machine m, of 64, has the 130 words from 130 m on: its number, its count of regions, and four
-- words for each of 32 regions. Word 8320 is the number of machines, and the four words behind it are the allocator's region.
-- Assumes nothing.
use Rattle.std.specs.Prelude.{◌≡◌, List, ℕ, ◌+◌, ◌*◌, ◌%◌, ◌<◌, min, length, get_or, ltb}
use Rattle.base.specs.Choices.{pick}
use Rattle.address.specs.declared.Kind.{Kind}
use Rattle.address.specs.declared.Region.{Region}
use Rattle.region_words.specs.Words.{nothing, region_of, HasRegion}
use Rattle.config_model.specs.Config.{Config}

-- the configuration in any words: counts above 64 and 32 read as 64 and 32, and a number by its lower 16 bits
abbrev pub table_config : List ℕ → Config
table_config t =
    record {
      machines = min 64 (get_or t 8320 0);
      number = λ m. get_or t (130 * m) 0 % 65536;
      count = λ m. min 32 (get_or t (130 * m + 1) 0);
      region = λ m i. region_of t (130 * m + (2 + 4 * i));
      pool = region_of t 8321;
    }

-- what a table holds of machine m: its number and its count, and 0 where there is no machine m
unfoldable pub number_in : Config → ℕ → ℕ
number_in c m = pick (ltb m c.machines) (c.number m) 0

unfoldable pub count_in : Config → ℕ → ℕ
count_in c m = pick (ltb m c.machines) (c.count m) 0

-- what it holds at place i of machine m: the region, and `nothing` where there is none
unfoldable pub region_in : Config → ℕ → ℕ → Region
region_in c m i = pick (ltb i (count_in c m)) (c.region m i) nothing

-- t is the table of c
pub record Table (c : Config) (t : List ℕ) : Type 0 where
  pub long : length t ≡ 8325
  pub machines : get_or t 8320 0 ≡ c.machines
  pub pool : HasRegion t 8321 (record { guest = 0; host = c.pool.host; pages = c.pool.pages; kind = Kind.Ordinary })
  pub number : (m : ℕ) → m < 64 → get_or t (130 * m) 0 ≡ number_in c m
  pub count : (m : ℕ) → m < 64 → get_or t (130 * m + 1) 0 ≡ count_in c m
  pub region : (m i : ℕ) → m < 64 → i < 32 → HasRegion t (130 * m + (2 + 4 * i)) (region_in c m i)
