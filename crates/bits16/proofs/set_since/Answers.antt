-- `bits16::set_since` meets its contract, by the law of the length of a word. Assumes nothing.
use Rattle.bits16.proofs.Masks.{one_shl}
use Rattle.bits16.proofs.Lengths.{since_leading}
use Rattle.bits16.proofs.set_since.Goals as goal

pub returns : goal.returns
returns c = rw (one_shl c.args.e c.requires) (since_leading c.args.w c.args.e c.ranges.w.fits c.requires)
