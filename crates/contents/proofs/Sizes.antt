-- What the contracts assume of memories with the frames' words is met at every size: whatever each frame is to be, and whatever stands in
-- those that are not free. Assumes nothing.
use mathlib.Core.Path.{◌≡◌, sym, ◌∙◌}
use mathlib.Core.List.{List}
use Prim.Native.Nat.{ℕ, ◌+◌, ◌*◌, ◌%◌, ◌^◌, ◌≤◌, ◌<◌}
use native.Mathlib.Decide.{dec_lt}
use native.Mathlib.Omega.{arith}
use lib.ListN.{length, replicate, length-replicate}
use Rattle.base.proofs.Ranges.{zero_word}
use Rattle.bitmap_tree.specs.Tree.{cap}
use Rattle.bitmap_tree.proofs.Summaries.{Words16}
use Rattle.owners.specs.States.{State, State.Free, State.Reserved, state}
use Rattle.owners.proofs.States.{not_reserved}
use Rattle.owners.proofs.Sizes as owners
use Rattle.owners.proofs.Sizes.{Possible, free_possible}
use Rattle.contents.specs.Contents.{Zero, Clean}

-- for every size, every base and every number n of frames with contents, whatever each of these frames is to be, if it can, and whatever
-- words stand in them, if those that are to be free are all 0: there are memories that are clean with these words, in which it is that
pub every_state : (d base n : ℕ) (s : ℕ → State) (w : List ℕ) → 0 < d → d ≤ 15 → base % 4096 ≡ 0 → n ≤ 16 ^ d
    → ((k : ℕ) → k < n → Possible base k (s k)) → length w ≡ 512 * n → ((k : ℕ) → k < n → s k ≡ Free → Zero w k)
    → (t : List ℕ) × (o : List ℕ) × (cap t ≡ 16 ^ d) × Words16 t × Clean base t o w × ((k : ℕ) → k < n → state t o k ≡ s k)
every_state d base n s w p l e h can long empty =
    let x = owners.every_state d base n s p l e h can in
    let size = x.2 in
    let bytes = x.4.matched.bytes in (
      x.0,
      x.1,
      x.2,
      x.3,
      record {
        accounted = x.4;
        backed = record { whole = omega arith; few = omega arith };
        beyond = λ k g. x.6 k (omega arith);
        zero = λ k q. zero x.0 x.1 x.5 x.6 k q (dec_lt k n);
      },
      x.5,
    )
  where
    zero : (t o : List ℕ) → ((k : ℕ) → k < n → state t o k ≡ s k) → ((k : ℕ) → n ≤ k → state t o k ≡ Reserved) → (k : ℕ) → state t o k ≡ Free → Dec (k < n) → Zero w k
    zero t o is rest k q (yes i) = empty k i (sym (is k i) ∙ q)
    zero t o is rest k q (no g) = absurd (not_reserved (sym q ∙ rest k (omega (arith, g))))

-- the frames with contents can all be free, and all 0
pub every_size : (d base n : ℕ) → 0 < d → d ≤ 15 → base % 4096 ≡ 0 → n ≤ 16 ^ d → base + 4096 * n < 2 ^ 64
    → (t : List ℕ) × (o : List ℕ) × (cap t ≡ 16 ^ d) × Words16 t × Clean base t o (replicate (512 * n) 0) × ((k : ℕ) → k < n → state t o k ≡ Free)
every_size d base n p l e h b =
    every_state d base n (λ k. Free) (replicate (512 * n) 0) p l e h (λ k i. free_possible base k (omega arith)) (length-replicate {A = ℕ} (512 * n) 0)
    (λ k i _ j _. zero_word (512 * n) (512 * k + j))
