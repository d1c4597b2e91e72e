-- `bitmap_range::flood` meets its contract. Assumes nothing.
use mathlib.Core.Path.{◌≡◌, refl}
use native.Mathlib.Omega.{arith}
use Rattle.bits16.proofs.Laws.{bit_of_zero}
use Rattle.bits16.proofs.Lengths.{full_bit}
use Rattle.bitmap_range.proofs.Rows.{painted_words}
use Rattle.bitmap_range.proofs.flood.Goals as goal

pub returns-then-v-eq1 : goal.returns-then-v-eq1
returns-then-v-eq1 c = rw c.if-v-eq1.true (painted_words _ _ _ _ 65535 1 full_bit refl c.store.ensures)

pub returns-else-v-eq1 : goal.returns-else-v-eq1
returns-else-v-eq1 c =
    let z : c.args.v ≡ 0 = let p = c.requires in omega (arith, c.if-v-eq1.false) in
    rw z (painted_words _ _ _ _ 0 0 (λ i _. bit_of_zero i) refl c.store-else-v-eq1.ensures)
