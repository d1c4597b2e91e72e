-- `contents::reserved_until` meets its contract. Assumes nothing.
use mathlib.Core.Path.{sym, ◌∙◌}
use native.Mathlib.Omega.{arith}
use Rattle.base.proofs.Search.{stops_more, stops_at}
use Rattle.bitmap_tree.proofs.Nodes.{bit_clear}
use Rattle.bitmap_tree.proofs.Fullness.{full_bound}
use Rattle.owners.specs.States.{State.Reserved}
use Rattle.owners.proofs.States.{reserved_state, state_told}
use Rattle.owners.proofs.Writes.{byte_at}
use Rattle.contents.proofs.reserved_until.Goals.{then-read-eq1-via-then-read-eq1, then-read-eq1-via-else-read-eq1+then-owners-k-lt64}
use Rattle.contents.proofs.reserved_until.Goals as goal

pub read-requires : goal.read-requires
read-requires c = let m = c.requires.0.bytes in let b = full_bound _ c.requires.0.full in (omega arith, omega arith)

pub returns-then-read-eq1 : goal.returns-then-read-eq1
returns-then-read-eq1 c = let x = byte_at c.args.owners.now c.loop-k.k (omega arith) in stops_at _ c.loop-k.invariant (omega arith) (λ _ e. let s = state_told _ _ _ Reserved e in elim c.then-read-eq1.branch [ then-read-eq1-via-then-read-eq1 w ↦ s.0 (sym c.read.ensures ∙ w.if-read-eq1.true) | then-read-eq1-via-else-read-eq1+then-owners-k-lt64 w ↦ s.1 (omega (arith, w.if-owners-k-lt64.true)) ])

pub loop-k-preserved : goal.loop-k-preserved
loop-k-preserved c = let i = c.loop-k.invariant in let x = byte_at c.args.owners.now c.loop-k.k (omega arith) in stops_more i (reserved_state _ _ _ (bit_clear c.args.tree.now _ (λ e. c.if-read-eq1.false (c.read.ensures ∙ e))) (λ l. omega (arith, c.if-owners-k-lt64.false)))
