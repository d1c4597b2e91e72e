-- `replayframes_calls::index_of_call` meets its contract. Assumes nothing.
use mathlib.Core.Path.{sym, ◌∙◌, ap}
use Rattle.std.specs.Prelude.{Result}
use Rattle.hv_calls.specs.declared.Replied.{Replied}
use Rattle.hv_serve.specs.declared.NotServed.{NotServed}
use Rattle.replayframes_calls.specs.Calls.{called_index}
use Rattle.replayframes_calls.proofs.index_of_call.Goals as goal

pub returns-in-Ok : goal.returns-in-Ok
returns-in-Ok c = c.index_in.ensures ∙ ap (λ (x : Result Replied NotServed). called_index x c.args.old) (sym c.in-Ok.is)
