-- `owner_passes::one_if_owned` meets its contract. Assumes nothing.
use mathlib.Core.Path.{◌≡◌, sym, ◌∙◌}
use native.Mathlib.Omega.{arith}
use Rattle.std.proofs.lemmas.Bool.Decides.{nat_tests}
use Rattle.bitmap_tree.proofs.Fullness.{full_bound}
use Rattle.owners.proofs.States.{owned_state}
use Rattle.owners.proofs.Writes.{byte_at}
use Rattle.owner_passes.proofs.Counting.{owns_said, owns_none, other_byte, free_bit}
use Rattle.owner_passes.proofs.one_if_owned.Goals as goal

pub read-requires : goal.read-requires
read-requires c = let b = full_bound _ c.requires.0.full in (omega arith, omega arith)

pub returns-then-owners-k : goal.returns-then-owners-k
returns-then-owners-k c =
    let a = c.args in
    let m = c.requires.0.bytes in
    c.from.ensures ∙ owns_said _ _ _
    (λ e. let z : c.read.result ≡ 0 = grind (arith, nat_tests) in owned_state _ _ _ _ (sym c.read.ensures ∙ z) (sym (byte_at a.owners.now a.k (omega arith)) ∙ c.if-owners-k.true) c.requires.2)
    (λ e. free_bit a.tree.now a.owners.now a.k a.c (λ q. let z : c.read.result ≡ 0 = c.read.ensures ∙ q in grind (arith, nat_tests)))

pub returns-else-owners-k : goal.returns-else-owners-k
returns-else-owners-k c =
    let a = c.args in
    let m = c.requires.0.bytes in
    sym (owns_none _ _ (other_byte a.tree.now a.owners.now a.k a.c (λ q. c.if-owners-k.false (byte_at a.owners.now a.k (omega arith) ∙ q))))
