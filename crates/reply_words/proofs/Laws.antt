-- Three words of a reply are written one after the other. Assumes nothing.
use mathlib.Core.Path.{◌≡◌, ◌∙◌}
use mathlib.Core.List.{List}
use Prim.Native.Nat.{ℕ, ◌+◌, ◌≤◌}
use lib.ListN.{length, set, length-set}
use lib.Seq.{get_or-set_same, get_or-set_other}
use native.Mathlib.Omega.{arith}
use Rattle.base.specs.Ranges.{Only}
use Rattle.hv_calls.specs.declared.Replied.{Replied}
use Rattle.reply_words.specs.Replies.{code_in, index_in, place_in, Wrote}

module _ (z : List ℕ) (r x y v : ℕ) (l : r + 3 ≤ length z) where
  -- the words after each
  abbrev one : List ℕ
  one = set z r x

  abbrev two : List ℕ
  two = set one (r + 1) y

  abbrev three : List ℕ
  three = set two (r + 2) v

  pub long_one : length one ≡ length z
  long_one = length-set z r x

  pub long_two : length two ≡ length z
  long_two = length-set one (r + 1) y ∙ long_one

  pub wrote : (said : Replied) → x ≡ code_in said → y ≡ index_in said 0 → v ≡ place_in said 0 → Only z r (r + 3) three × Wrote three r said
  wrote said ex ey ev =
      let e = long_one in
      let f = long_two in (
        record {
          long = length-set two (r + 2) v ∙ f;
          others = λ i d. get_or-set_other two (r + 2) i v 0 (λ q. d (omega (arith, q)) (omega (arith, q))) ∙ get_or-set_other one (r + 1) i y 0 (λ q. d (omega (arith, q)) (omega (arith, q))) ∙ get_or-set_other z r i x 0 (λ q. d (omega (arith, q)) (omega (arith, q)));
        },
        record {
          code = get_or-set_other two (r + 2) r v 0 (λ q. omega (arith, q)) ∙ get_or-set_other one (r + 1) r y 0 (λ q. omega (arith, q)) ∙ get_or-set_same z r x 0 (omega arith) ∙ ex;
          index = get_or-set_other two (r + 2) (r + 1) v 0 (λ q. omega (arith, q)) ∙ get_or-set_same one (r + 1) y 0 (omega arith) ∙ ey;
          place = get_or-set_same two (r + 2) v 0 (omega arith) ∙ ev;
        },
      )
