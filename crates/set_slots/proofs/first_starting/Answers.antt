-- `set_slots::first_starting` meets its contract. Assumes nothing.
use borrow.Author.Rules.{rules}
use Rattle.set_model.specs.Sets.{starts}
use Rattle.set_slots.proofs.Found.{by_test}
use Rattle.set_slots.proofs.first_starting.Goals as goal

pub returns : goal.returns
returns c = by_test (starts c.args.guest) c.first.ensures (λ r b p. search rules)
