-- What the loop of `config_kept::regions_kept` keeps. Assumes nothing.
use Prim.Native.Nat.{ℕ, ◌+◌, ◌*◌, ◌<◌}
use Rattle.region_words.specs.Words.{HasRegion}
use Rattle.config_view.specs.Table.{table_config, region_in}
use Rattle.config_kept.proofs.regions_kept.Given as goal

abbrev pub invariant-loop-i : goal.invariant-loop-i
invariant-loop-i l = (k : ℕ) → k < l.i → HasRegion l.t (130 * l.m + (2 + 4 * k)) (region_in (table_config l.t) l.m k)
