-- `bitmap_runs::round_up` meets its contract. Assumes nothing.
use Rattle.bitmap_runs.proofs.Windows.{shifted}
use Rattle.bitmap_runs.proofs.round_up.Goals as goal

pub returns : goal.returns
returns c = shifted c.args.f c.args.e c.requires.0 c.requires.1
