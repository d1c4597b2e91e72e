-- `owner_passes::other_until` meets its contract. Assumes nothing.
use mathlib.Core.Path.{sym, ◌∙◌}
use native.Mathlib.Omega.{arith}
use Rattle.base.proofs.Search.{stops_more, stops_at}
use Rattle.owners.proofs.Writes.{byte_at}
use Rattle.owner_passes.proofs.other_until.Goals as goal

pub returns-then-owners-k : goal.returns-then-owners-k
returns-then-owners-k c = stops_at _ c.loop-k.invariant (omega arith) (λ l n. n (sym (byte_at c.args.owners.now c.loop-k.k (omega arith)) ∙ c.if-owners-k.true))

pub loop-k-preserved : goal.loop-k-preserved
loop-k-preserved c = stops_more c.loop-k.invariant (λ e. c.if-owners-k.false (byte_at c.args.owners.now c.loop-k.k (omega arith) ∙ e))
