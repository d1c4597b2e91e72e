-- `bits16::starts` meets its contract. Assumes nothing.
use Rattle.bits16.proofs.Doubling.{starts_of}
use Rattle.bits16.proofs.starts.Goals as goal

pub returns : goal.returns
returns c = starts_of _ _ _ _ c.runs_of.ensures
