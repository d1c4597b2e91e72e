-- The words behind those of the machines. Assumes nothing.
use Rattle.std.specs.Prelude.{◌≡◌, List, ℕ, get_or}
use Rattle.address.specs.declared.Kind.{Kind}
use Rattle.region_words.specs.Words.{HasRegion}
use Rattle.config_model.specs.Config.{Config}

-- the last five words of t are those of c: how many machines it has, and the allocator's region
pub record EndIn (c : Config) (t : List ℕ) : Type 0 where
  pub machines : get_or t 8320 0 ≡ c.machines
  pub pool : HasRegion t 8321 (record { guest = 0; host = c.pool.host; pages = c.pool.pages; kind = Kind.Ordinary })
