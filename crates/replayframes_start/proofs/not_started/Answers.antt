-- `replayframes_start::not_started` meets its contract. Assumes nothing.
use mathlib.Core.Path.{sym, ap, ◌∙◌}
use Rattle.replayframes_start.specs.Start.{not_started_code}
use Rattle.replayframes_start.proofs.not_started.Goals as goal

pub returns-in-Config : goal.returns-in-Config
returns-in-Config c = c.code_of.ensures ∙ sym (ap not_started_code c.in-Config.is)
