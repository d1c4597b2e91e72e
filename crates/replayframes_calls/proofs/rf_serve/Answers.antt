-- `replayframes_calls::rf_serve` meets its contract. Assumes nothing.

use Rattle.replayframes_calls.proofs.rf_serve.Goals as goal

pub returns : goal.returns
returns c = record { answer = c.serve-answer.result; says = c.serve-answer.ensures; is = c.code_of_call.ensures; wrote_index = c.index_of_call.ensures; wrote_address = c.address_of_call.ensures }
