-- `bitmap_looks::any` meets its contract. Assumes nothing.
use mathlib.Core.Path.{refl}
use native.Mathlib.Omega.{arith}
use Rattle.std.proofs.lemmas.Bool.Decides.{nat_tests}
use Rattle.bitmap_tree.proofs.Summaries.{Words16}
use Rattle.bitmap_looks.proofs.Answers.{root_says}
use Rattle.bitmap_looks.proofs.any.Goals as goal

pub returns : goal.returns
unfolding Words16
returns c = root_says _ c.if-not-is_full.ensures (λ n. let f = c.type_inv.tree n in omega arith) _ (λ e. grind (arith, nat_tests)) (λ e. grind (arith, nat_tests))
