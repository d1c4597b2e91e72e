-- `address::aligned` meets its contract. Assumes nothing.
use Rattle.address.proofs.Laws.{said_of_rest}
use Rattle.address.proofs.aligned.Goals as goal

pub returns : goal.returns
returns c = said_of_rest _ _ c.is_multiple_of.result c.is_multiple_of.ensures
