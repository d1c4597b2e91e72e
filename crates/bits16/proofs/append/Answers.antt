-- `bits16::append` meets its contract. Assumes nothing.
use Rattle.bits16.proofs.Lengths.{appended}
use Rattle.bits16.proofs.append.Goals as goal

pub returns : goal.returns
returns c = let p = c.requires in appended c.args.w c.args.i c.args.v p.0 p.1 p.2
