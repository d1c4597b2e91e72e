-- What a search by `position` in a part of a slice tells: where it stops, in the words of the searches. Assumes nothing.
use mathlib.Core.Path.{◌≡◌, sym, ap, subst, ◌∙◌}
use mathlib.Core.List.{List}
use Prim.Native.Nat.{ℕ, ◌+◌, ◌-◌, ◌≤◌, ◌<◌}
use native.Mathlib.Omega.{arith}
use lib.ListN.{length, get_or, take, drop}
use Rattle.std.specs.Prelude.{Option, None, Some}
use Rattle.std.specs.Option.{MatchOption}
use Rattle.std.specs.List.{AllWithin, HoldsAt}
use Rattle.std.proofs.Common.{length-take, length-drop}
use Rattle.std.proofs.lemmas.List.{get_or-take, get_or-drop}
use Rattle.base.specs.Search.{Stops}

-- n words from the word p on
abbrev pub part : List ℕ → ℕ → ℕ → List ℕ
part xs p n = take n (drop p xs)

pub part_long : (xs : List ℕ) (p n : ℕ) → p + n ≤ length xs → length (part xs p n) ≡ n
part_long xs p n l = simp (length-take, length-drop) (omega arith)

pub word_at : (xs : List ℕ) (p n i d : ℕ) → i < n → get_or (part xs p n) i d ≡ get_or xs (p + i) d
word_at xs p n i d h = get_or-take n (drop p xs) i d h ∙ get_or-drop p xs i d

word_from : (xs : List ℕ) (p n k d : ℕ) → p ≤ k → k < p + n → get_or (part xs p n) (k - p) d ≡ get_or xs k d
word_from xs p n k d l h = word_at xs p n (k - p) d (omega arith) ∙ ap (λ (j : ℕ). get_or xs j d) (let e : p + (k - p) ≡ k = omega arith in e)

-- the first word from p up to b that passes, counted from p
pub stops_position : (Yes No : ℕ → Type 0) (xs : List ℕ) (p n b d : ℕ) (r : Option ℕ) → p + n ≡ b → b ≤ length xs → ((x : ℕ) → Yes x → No x → ⊥)
    → MatchOption r (AllWithin No (part xs p n) 0 (length (part xs p n))) (λ i. (i < length (part xs p n)) × HoldsAt Yes (part xs p n) i × AllWithin No (part xs p n) 0 i)
    → MatchOption r (Stops (λ k. No (get_or xs k d)) p b b) (λ i. Stops (λ k. No (get_or xs k d)) p b (p + i))
stops_position Yes No xs p n b d None e l never all =
    let q = part_long xs p n (omega arith) in
    record {
      low = omega arith;
      high = omega arith;
      before = λ k u v. subst No (word_from xs p n k d u (omega arith)) (all (k - p) d (omega arith) (omega arith));
      fails = λ h. absurd (omega arith);
    }
stops_position Yes No xs p n b d (Some i) e l never f =
    let q = part_long xs p n (omega arith) in
    let g = f.0 in
    record {
      low = omega arith;
      high = omega arith;
      before = λ k u v. subst No (word_from xs p n k d u (omega arith)) (f.2 (k - p) d (omega arith) (omega arith));
      fails = λ h z. never _ (f.1 d) (subst No (sym (word_at xs p n i d (omega arith))) z);
    }
