-- `replayframes_views::write_region` meets its contract. Assumes nothing.
use mathlib.Core.Path.{ap}
use Rattle.replayframes_views.specs.Views.{fields}
use Rattle.replayframes_views.proofs.write_region.Goals as goal

pub returns : goal.returns
returns c = let r = c.args.r in ap (fields r.guest r.host r.pages) c.number_of.ensures
