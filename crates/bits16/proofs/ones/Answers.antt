-- `bits16::ones` meets its contract, by the law of the machine's count. Assumes nothing.
use Rattle.bits16.proofs.Laws.{ones_many}
use Rattle.bits16.proofs.ones.Goals as goal

pub returns : goal.returns
returns c = ones_many 16 c.args.w c.ranges.w.fits
