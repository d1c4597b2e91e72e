-- `claims::may_free` meets its contract. Assumes nothing.
use mathlib.Core.Path.{sym, ◌∙◌}
use native.Mathlib.Omega.{arith}
use Rattle.bitmap_tree.proofs.Nodes.{bit_clear}
use Rattle.owners.proofs.States.{owned_state}
use Rattle.owners.proofs.Writes.{byte_at}
use Rattle.claims.proofs.Returns.{not_mine}
use Rattle.claims.proofs.may_free.Goals as goal

pub returns-then-owners-k : goal.returns-then-owners-k
returns-then-owners-k c = let f = c.in_ok-fitting.ensures in record { known = record { fits = f; client = c.if-c-ge64.false }; frame = _; place = c.in_ok-k.ensures; is = not_mine _ _ _ _ (omega (arith, f.matched.bytes)) (λ e. c.if-read-eq1.false (c.read.ensures ∙ e)) (λ e. c.if-owners-k.true (byte_at c.args.owners.now _ c.if-k-owners.false ∙ e)) }

pub returns : goal.returns
returns c = let f = c.in_ok-fitting.ensures in record { known = record { fits = f; client = c.if-c-ge64.false }; place = c.in_ok-k.ensures; within = omega (arith, f.matched.bytes); owned = owned_state _ _ _ _ (bit_clear c.args.tree.now _ (λ e. c.if-read-eq1.false (c.read.ensures ∙ e))) (sym (byte_at c.args.owners.now _ c.if-k-owners.false) ∙ c.if-owners-k.false) c.if-c-ge64.false }
