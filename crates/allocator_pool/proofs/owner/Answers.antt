-- `allocator_pool::owner` meets its contract. Assumes nothing.
use mathlib.Core.Path.{sym, ◌∙◌}
use native.Mathlib.Omega.{arith}
use Rattle.bitmap_tree.proofs.Nodes.{bit_clear}
use Rattle.owners.proofs.States.{owned_state, reserved_state}
use Rattle.owners.proofs.Writes.{byte_at}
use Rattle.allocator_pool.proofs.owner.Goals as goal

pub returns-then-c-ge64 : goal.returns-then-c-ge64
returns-then-c-ge64 c = let f = c.in_ok-fitting.ensures in let x = byte_at c.args.owners.now c.args.k c.if-k-owners.false in record { fits = f; within = omega (arith, f.matched.bytes); is = reserved_state _ _ _ (bit_clear c.args.tree.now _ (λ e. c.if-read-eq1.false (c.read.ensures ∙ e))) (λ l. omega arith) }

pub returns : goal.returns
returns c = let f = c.in_ok-fitting.ensures in record { fits = f; within = omega (arith, f.matched.bytes); is = owned_state _ _ _ _ (bit_clear c.args.tree.now _ (λ e. c.if-read-eq1.false (c.read.ensures ∙ e))) (sym (byte_at c.args.owners.now c.args.k c.if-k-owners.false)) c.if-c-ge64.false }
