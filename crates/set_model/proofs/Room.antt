-- A set of regions, each of which is one of a list, is not longer than the list: a region of the list that meets none of the set finds room.
-- Assumes nothing.
use mathlib.Core.Path.{◌≡◌, refl, sym, ◌∙◌, ap}
use mathlib.Core.Bool.{Bool, true, false, not}
use mathlib.Core.List.{List, [], ◌∷◌}
use Prim.Native.Nat.{suc, ◌+◌, ◌*◌, ◌<◌, ◌≤◌, suc-le-suc, zero-le}
use lib.ListN.{length}
use native.Mathlib.Omega.{arith}
use Rattle.base.specs.Choices.{pick}
use Rattle.base.proofs.Choices.{never, is_false}
use Rattle.address.specs.declared.Region.{Region}
use Rattle.set_model.specs.Sets.{same, meets, any, In, Every, without, Ordered}
use Rattle.set_model.proofs.Tests.{same_is, meets_self}
use Rattle.set_model.proofs.Lists.{any_head, any_tail, behind_apart, in_without_stays}

-- x is none of the list
abbrev None : Region → List Region → Type 0
None x l = Every (λ y. not (same x y)) l

-- no two of the list are the same
abbrev Distinct : List Region → Type 0
Distinct [] = Unit
Distinct (x ∷ xs) = None x xs × Distinct xs

shorter : (x : Region) (l : List Region) → In x l → suc (length (without (same x) l)) ≡ length l
shorter x [] e = never (sym e)
shorter x (w ∷ ws) e = go (same x w) e (shorter x ws)
  where
    go : (b : Bool) → pick b true (any (same x) ws) ≡ true → (In x ws → suc (length (without (same x) ws)) ≡ length ws) → suc (length (pick b ws (w ∷ without (same x) ws))) ≡ suc (length ws)
    go true f more = refl
    go false f more = ap suc (more f)

-- what is given and is not x is given without x
still_given : (x : Region) (l g : List Region) → None x l → Every (λ y. any (same y) g) l → Every (λ y. any (same y) (without (same x) g)) l
still_given x [] g n e = tt
still_given x (y ∷ ys) g n e = (in_without_stays (same x) y g (is_false (same x y) n.0) e.0, still_given x ys g n.1 e.1)

pigeon : (l g : List Region) → Distinct l → Every (λ x. any (same x) g) l → length l ≤ length g
pigeon [] g d e = zero-le
pigeon (x ∷ xs) g d e = rw (← shorter x g e.0) (suc-le-suc (pigeon xs (without (same x) g) d.1 (still_given x xs g d.0 e.1)))

apart_none : (x : Region) (l : List Region) → 0 < x.pages → any (meets x) l ≡ false → None x l
apart_none x [] h a = tt
apart_none x (y ∷ ys) h a = (go (same x y) refl, apart_none x ys h (any_tail (meets x) y ys a))
  where
    go : (b : Bool) → same x y ≡ b → not b ≡ true
    go true e = never (sym (meets_self x h) ∙ ap (meets x) (same_is x y e) ∙ any_head (meets x) y ys a)
    go false e = refl

ordered_distinct : (l : List Region) → Ordered l → Distinct l
ordered_distinct [] o = tt
ordered_distinct (x ∷ xs) o = (apart_none x xs o.0.on.some (behind_apart x (x.guest + 4096 * x.pages) xs (omega arith) o.1 o.2), ordered_distinct xs o.2)

-- a region of g that meets none of a set of regions of g finds room for one more among as many as g has
pub room : (l g : List Region) (r : Region) → Ordered l → Every (λ x. any (same x) g) l → 0 < r.pages → In r g → any (meets r) l ≡ false → length l < length g
room l g r o e p h m = pigeon (r ∷ l) g (apart_none r l p m, ordered_distinct l o) (h, e)
