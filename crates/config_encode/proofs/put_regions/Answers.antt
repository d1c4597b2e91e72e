-- `config_encode::put_regions` meets its contract. Assumes nothing.
use Rattle.config_encode.proofs.Laws.{regions_wrote_more}
use Rattle.config_encode.proofs.put_regions.Goals as goal

pub loop-i-preserved : goal.loop-i-preserved
loop-i-preserved c = regions_wrote_more c.loop-i.invariant c.put_region.ensures c.region.ensures
