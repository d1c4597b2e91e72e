-- `set_slots::first_covering` meets its contract. Assumes nothing.
use borrow.Author.Rules.{rules}
use Rattle.set_model.specs.Sets.{covers}
use Rattle.set_slots.proofs.Found.{covers_said}
use Rattle.set_slots.proofs.Found.{by_test}
use Rattle.set_slots.proofs.first_covering.Goals as goal

pub returns : goal.returns
returns c = by_test (covers c.args.addr) c.first.ensures (λ r b p. covers_said c.args.addr r b (search rules))
