-- From what the inner crates' functions say to what the public ones do. Assumes nothing.
use mathlib.Core.Bool.{Bool, true, false}
use mathlib.Core.Path.{◌≡◌, refl}
use mathlib.Core.List.{List}
use Prim.Native.Nat.{ℕ, ◌+◌, ◌-◌, ◌*◌, ◌/◌, ◌%◌, ◌<◌, min}
use native.Mathlib.Decide.{ℕ_discrete}
use native.Mathlib.Omega.{arith}
use lib.ListN.{length, get_or}
use Rattle.base.specs.Search.{Stops}
use Rattle.base.proofs.Search.{some_fails}
use Rattle.std.proofs.Common.{Ok}
use Rattle.bitmap_tree.specs.Tree.{node_bit, free, cap, Full, Summarised, Honest, Agree}
use Rattle.bitmap_tree.proofs.Fullness.{full_bound, full_whole}
use Rattle.bitmap_tree.proofs.Summaries.{some_under, Words16}
use Rattle.bitmap_tree.proofs.Nodes.{bit_clear}
use Rattle.bitmap_search.proofs.Descent.{root_says_none}
use Rattle.bitmap_looks.specs.Looks.{HasFree, LowestLie, AnySays, TestSays}

-- where the root is not 0 some frame is free
pub root_says_some : (t : List ℕ) → Full (length t) → Words16 t → (get_or t 0 0 ≡ 0 → ⊥) → Agree t → HasFree t
root_says_some t f words some a =
    let b = full_bound (length t) f in
    let r = some_under t a words 0 b.0 some in
    let lo = r.1 in
    let hi = r.2 in
    let e : length t + (r.0 - length t) ≡ r.0 = omega arith in
    record { frame = r.0 - length t; within = omega arith; is = rw e r.3 }

-- what the root tells
pub root_says : (t : List ℕ) → Full (length t) → Words16 t → (b : Bool) → (b ≡ true → get_or t 0 0 ≡ 0 → ⊥) → (b ≡ false → get_or t 0 0 ≡ 0) → AnySays t (Ok b)
root_says t f words true some none = (f, some refl, root_says_some t f words (some refl))
root_says t f words false some none = (f, none refl, root_says_none t f (none refl))

-- what a frame's bit tells
pub bit_says : (t : List ℕ) (k : ℕ) → Full (length t) → k < cap t → (b : Bool) → (b ≡ true → free t k ≡ 1) → (b ≡ false → free t k ≡ 1 → ⊥) → TestSays t k (Ok b)
bit_says t k f l true set clear = (f, l, set refl)
bit_says t k f l false set clear = (f, l, bit_clear t (length t + k) (clear refl))

-- a word is summarised if its parent is honest
from_parent : (t : List ℕ) (n : ℕ) → 0 < n → Honest t ((n - 1) / 16) → Summarised t n
from_parent t n p h = let e : 16 * ((n - 1) / 16) + 1 + (n - 1) % 16 ≡ n = omega arith in rw e at (h ((n - 1) % 16) (omega arith))

-- every word that speaks for words is honest: the summaries agree
pub no_lie : (t : List ℕ) (p : ℕ) → Full (length t) → Stops (Honest t) 0 ((length t - 1) / 16) p → p ≡ (length t - 1) / 16 → Agree t
unfolding Agree
no_lie t p f s e n pos l = let w = full_whole (length t) f in from_parent t n pos (s.before ((n - 1) / 16) (omega arith) (omega arith))

-- the first word that is not honest has a bit that lies
pub lowest_lie : (t : List ℕ) (p : ℕ) → Full (length t) → Stops (Honest t) 0 ((length t - 1) / 16) p → (p ≡ (length t - 1) / 16 → ⊥) → LowestLie t p
lowest_lie t p f s ne =
    let w = full_whole (length t) f in
    let hi = s.high in
    let r = some_fails (λ i. Summarised t (16 * p + 1 + i)) (λ i. ℕ_discrete (node_bit t (16 * p + 1 + i)) (min 1 (get_or t (16 * p + 1 + i) 0))) 16 (s.fails (omega (arith, ne))) in
    let l = r.1 in
    record {
      child = 16 * p + 1 + r.0;
      some = omega arith;
      within = omega (arith, ne);
      under = omega arith;
      lies = r.2;
      lowest = λ m q h k. from_parent t m q (s.before ((m - 1) / 16) (omega arith) k);
    }
