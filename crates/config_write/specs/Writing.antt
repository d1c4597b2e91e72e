-- What has been written of the table of a configuration c: t is the table before, and t' after. Assumes nothing.
use Rattle.std.specs.Prelude.{◌≡◌, List, ℕ, ◌+◌, ◌*◌, ◌<◌, length, get_or}
use Rattle.base.specs.Ranges.{Only}
use Rattle.region_words.specs.Words.{HasRegion}
use Rattle.config_model.specs.Config.{Config}
use Rattle.config_view.specs.Table.{number_in, count_in, region_in}

-- the words of t are those of machine m
pub record MachineIn (c : Config) (m : ℕ) (t : List ℕ) : Type 0 where
  pub number : get_or t (130 * m) 0 ≡ number_in c m
  pub count : get_or t (130 * m + 1) 0 ≡ count_in c m
  pub regions : (i : ℕ) → i < 32 → HasRegion t (130 * m + (2 + 4 * i)) (region_in c m i)

-- the regions of machine m are written, and nothing else
pub record WroteRegions (c : Config) (m : ℕ) (t t' : List ℕ) : Type 0 where
  pub only : Only t (130 * m + 2) (130 * m + 130) t'
  pub regions : (i : ℕ) → i < 32 → HasRegion t' (130 * m + (2 + 4 * i)) (region_in c m i)

-- the words of machine m are written, and nothing else
pub record WroteMachine (c : Config) (m : ℕ) (t t' : List ℕ) : Type 0 where
  pub only : Only t (130 * m) (130 * m + 130) t'
  pub is : MachineIn c m t'

-- the words of the first n machines are written
pub record WroteMachines (c : Config) (n : ℕ) (t' : List ℕ) : Type 0 where
  pub long : length t' ≡ 8325
  pub each : (m : ℕ) → m < n → MachineIn c m t'
