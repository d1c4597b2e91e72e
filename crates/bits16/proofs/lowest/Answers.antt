-- `bits16::lowest` meets its contract, by the law of the machine's count. Assumes nothing.
use Rattle.bits16.proofs.Laws.{lowest_trailing}
use Rattle.bits16.proofs.lowest.Goals as goal

pub returns : goal.returns
returns c = lowest_trailing c.args.w
