-- `owners::has_owner` meets its contract. Assumes nothing.
use mathlib.Core.Path.{sym, ◌∙◌}
use native.Mathlib.Omega.{arith}
use borrow.Author.Tests.{ltb-true, eqb-true, eqb-false}
use Rattle.bitmap_tree.proofs.Fullness.{full_bound}
use Rattle.base.proofs.Says.{says_of}
use Rattle.owners.proofs.Writes.{byte_at, unnamed, free_unowned, named}
use Rattle.owners.proofs.has_owner.Goals as goal

pub read-requires : goal.read-requires
read-requires c = let b = full_bound _ c.requires.0.full in (omega arith, omega arith)

pub returns-then-owners-k-lt64 : goal.returns-then-owners-k-lt64
returns-then-owners-k-lt64 c =
    let e = c.requires.0.bytes in
    let x = byte_at c.args.owners.now c.args.k (omega arith) in
    says_of _ (λ q. named _ _ _ (sym c.read.ensures ∙ eqb-true _ _ q) (omega arith)) (λ q. free_unowned _ _ _ (λ z. eqb-false _ _ q (c.read.ensures ∙ z)))

pub returns-else-owners-k-lt64 : goal.returns-else-owners-k-lt64
returns-else-owners-k-lt64 c =
    let e = c.requires.0.bytes in
    let x = byte_at c.args.owners.now c.args.k (omega arith) in
    says_of _ (λ q. absurd (let l = ltb-true _ _ q in omega arith)) (λ _. unnamed _ _ _ (omega arith))
