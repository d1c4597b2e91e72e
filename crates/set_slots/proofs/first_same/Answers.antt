-- `set_slots::first_same` meets its contract. Assumes nothing.
use borrow.Author.Rules.{rules}
use Rattle.set_model.specs.Sets.{same}
use Rattle.set_model.proofs.Tests.{same_said}
use Rattle.set_slots.proofs.Found.{by_test}
use Rattle.set_slots.proofs.first_same.Goals as goal

pub returns : goal.returns
returns c = by_test (same c.args.r) c.first.ensures (λ r b p. same_said c.args.r r b (search rules))
