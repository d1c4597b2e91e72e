-- `replayframes_machines::region_with` meets its contract. Assumes nothing.
use mathlib.Core.Path.{refl}
use Rattle.region_words.proofs.Laws.{region_once}
use Rattle.replayframes_machines.proofs.region_with.Goals as goal

pub returns : goal.returns
returns c = region_once _ _ refl refl refl c.kind_of.ensures
