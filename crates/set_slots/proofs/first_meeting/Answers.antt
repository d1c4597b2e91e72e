-- `set_slots::first_meeting` meets its contract. Assumes nothing.
use borrow.Author.Rules.{rules}
use Rattle.set_model.specs.Sets.{meets}
use Rattle.set_model.proofs.Tests.{meets_said}
use Rattle.set_slots.proofs.Found.{by_test}
use Rattle.set_slots.proofs.first_meeting.Goals as goal

pub returns : goal.returns
returns c = by_test (meets c.args.r) c.first.ensures (λ r b p. meets_said c.args.r r b (search rules))
