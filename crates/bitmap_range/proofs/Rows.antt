-- Words painted whole, and the words of one row summarised. Assumes nothing.
use mathlib.Core.Path.{◌≡◌, refl, sym, ap, ◌∙◌}
use mathlib.Core.List.{List}
use Prim.Native.Nat.{ℕ, ◌+◌, ◌-◌, ◌*◌, ◌/◌, ◌%◌, ◌≤◌, ◌<◌, min}
use native.Mathlib.Decide.{ℕ_discrete}
use native.Mathlib.Omega.{arith}
use lib.ListN.{get_or}
use Rattle.base.specs.Ranges.{Outside}
use Rattle.bits16.specs.Bits.{bit}
use Rattle.bitmap_tree.specs.Tree.{Summarised}
use Rattle.bitmap_tree.specs.Writes.{Painted}
use Rattle.bitmap_tree.proofs.Nodes.{bit_in}
use Rattle.bitmap_range.specs.Levels.{Stored, Between, Noted}

-- words of which each bit is v
pub painted_words : (t t' : List ℕ) (p q x v : ℕ) → ((i : ℕ) → i < 16 → bit x i ≡ v) → min 1 x ≡ v → Stored t p q x t' → Painted t (16 * p + 1) (16 * q + 1) v t'
painted_words t t' p q x v bits some s = record {
  long = s.long;
  inside = λ k l h.
      bit_in t' k ((k - 1) / 16) refl ∙ ap (λ (w : ℕ). bit w ((k - 1) % 16)) (s.inside ((k - 1) / 16) (omega arith) (omega arith))
      ∙ bits ((k - 1) % 16) (omega arith);
  outside = λ k l o.
      bit_in t' k ((k - 1) / 16) refl ∙ ap (λ (w : ℕ). bit w ((k - 1) % 16)) (s.outside ((k - 1) / 16) (λ g h. o (omega arith) (omega arith)))
      ∙ sym (bit_in t k ((k - 1) / 16) refl);
  words = λ n o. s.outside n (λ g h. o (omega arith) (omega arith));
  whole = λ n l h. ap (λ (w : ℕ). min 1 w) (s.inside n (omega arith) (omega arith)) ∙ some;
}

-- one word summarised
pub noted_one : (t t' : List ℕ) (f v : ℕ) → 0 < f → Painted t f (f + 1) (min 1 (get_or t f 0)) t' → Noted t f f v t'
unfolding Between
noted_one t t' f v pos x = record {
  long = x.long;
  same = x.outside;
  words = λ n o. x.words n (λ a b. o a (omega arith));
  done = λ n l h o.
      let e : n ≡ f = omega arith in
      rw e (x.inside f (omega arith) (omega arith) ∙ ap (λ (z : ℕ). min 1 z) (sym (x.words f (λ a b. omega arith))));
  between = λ n l h. absurd (omega arith);
}

-- the two words at the ends summarised, and those between painted
pub noted_many : (t t₁ t₂ t₃ : List ℕ) (f b v : ℕ) → 0 < f → f < b → Between t f b v → Painted t f (f + 1) (min 1 (get_or t f 0)) t₁
    → Painted t₁ b (b + 1) (min 1 (get_or t₁ b 0)) t₂ → Painted t₂ (f + 1) b v t₃ → Noted t f b v t₃
unfolding Between
noted_many t t₁ t₂ t₃ f b v pos l between x y z = record {
  long = z.long ∙ y.long ∙ x.long;
  same = λ k p o.
      z.outside k p (λ g h. o (omega arith) (omega arith)) ∙ y.outside k p (λ g h. o (omega arith) (omega arith))
      ∙ x.outside k p (λ g h. o (omega arith) (omega arith));
  words = λ n o. last n o ∙ word n o;
  done = λ n g h o. done n g h o (ℕ_discrete n f) (ℕ_discrete n b);
  between = λ n g h. z.whole n (omega arith) (omega arith);
}
  where
    word : (n : ℕ) → Outside ((f - 1) / 16) ((b - 1) / 16 + 1) n → get_or t₁ n 0 ≡ get_or t n 0
    word n o = x.words n (λ g h. o g (omega arith))

    last : (n : ℕ) → Outside ((f - 1) / 16) ((b - 1) / 16 + 1) n → get_or t₃ n 0 ≡ get_or t₁ n 0
    last n o = z.words n (λ g h. o (omega arith) (omega arith)) ∙ y.words n (λ g h. o (omega arith) (omega arith))

    done : (n : ℕ) → f ≤ n → n ≤ b → Outside ((f - 1) / 16) ((b - 1) / 16 + 1) n → Dec (n ≡ f) → Dec (n ≡ b) → Summarised t₃ n
    done n g h o (yes e) d =
        z.outside n (omega arith) (λ p q. omega arith) ∙ y.outside n (omega arith) (λ p q. omega arith) ∙ x.inside n g (omega arith)
        ∙ ap (λ (k : ℕ). min 1 (get_or t k 0)) (sym e) ∙ ap (λ (w : ℕ). min 1 w) (sym (last n o ∙ word n o))
    done n g h o (no c) (yes e) =
        z.outside n (omega arith) (λ p q. omega arith) ∙ y.inside n (omega arith) (omega arith)
        ∙ ap (λ (k : ℕ). min 1 (get_or t₁ k 0)) (sym e) ∙ ap (λ (w : ℕ). min 1 w) (sym (last n o))
    done n g h o (no c) (no d) =
        z.inside n (omega (arith, c)) (omega (arith, d)) ∙ sym (between n (omega (arith, c)) (omega (arith, d)))
        ∙ ap (λ (w : ℕ). min 1 w) (sym (last n o ∙ word n o))
