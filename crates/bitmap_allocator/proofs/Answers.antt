-- From what the inner crates' functions say to what the public ones do. Assumes nothing.
use mathlib.Core.Path.{◌≡◌, ◌∙◌}
use mathlib.Core.List.{List}
use Prim.Native.Nat.{ℕ, ◌+◌, ◌*◌}
use native.Mathlib.Omega.{arith}
use lib.ListN.{length}
use Rattle.bitmap_tree.specs.Tree.{Full, Agree}
use Rattle.bitmap_tree.specs.Writes.{Painted}
use Rattle.bitmap_tree.proofs.Fullness.{full_bound}
use Rattle.bitmap_allocator.specs.Changes.{Reset}

-- every word painted with 0
pub wiped : (t t' : List ℕ) → Full (length t) → Painted t (16 * 0 + 1) (16 * length t + 1) 0 t' → Reset t t'
unfolding Agree
wiped t t' f p =
    let b = full_bound (length t) f in
    let e = p.long in
    record {
      full = f;
      long = e;
      taken = λ m l h. p.inside (length t' + m) (omega arith) (omega arith);
      agree = λ n q l. p.inside n (omega arith) (omega arith) ∙ zero (p.whole n (omega arith) (omega arith));
    }
  where
    zero : {x : ℕ} → x ≡ 0 → 0 ≡ x
    zero e = omega arith
