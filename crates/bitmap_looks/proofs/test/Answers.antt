-- `bitmap_looks::test` meets its contract. Assumes nothing.
use native.Mathlib.Omega.{arith}
use Rattle.std.proofs.lemmas.Bool.Decides.{nat_tests}
use Rattle.bitmap_looks.proofs.Answers.{bit_says}
use Rattle.bitmap_looks.proofs.test.Goals as goal

pub returns : goal.returns
returns c = bit_says _ _ c.if-not-is_full.ensures (omega arith) _ (λ e. grind (arith, nat_tests)) (λ e. grind (arith, nat_tests))
