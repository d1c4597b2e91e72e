-- `set_slots::first_above` meets its contract. Assumes nothing.
use borrow.Author.Rules.{rules}
use Rattle.set_slots.specs.Slots.{above}
use Rattle.set_slots.proofs.Found.{by_test}
use Rattle.set_slots.proofs.first_above.Goals as goal

pub returns : goal.returns
returns c = by_test (above c.args.guest) c.first.ensures (λ r b p. search rules)
