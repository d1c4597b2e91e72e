-- How the pages that a set maps change. Assumes nothing.
use mathlib.Core.Path.{◌≡◌, refl, sym, ◌∙◌, subst}
use mathlib.Core.Bool.{Bool, true, false}
use mathlib.Core.Logic.{◌⊎◌, inl, inr}
use mathlib.Core.List.{List, [], ◌∷◌}
use Prim.Native.Nat.{ℕ, ◌+◌, ◌*◌}
use native.Mathlib.Omega.{arith}
use Rattle.base.proofs.Choices.{never}
use Rattle.base.specs.Choices.{pick}
use Rattle.address.specs.declared.Region.{Region}
use Rattle.address.specs.Pages.{InPages}
use Rattle.set_model.specs.Sets.{same, meets, any, In, find, enter, without, Ordered, RegionMaps, Maps, MapsMore, MapsLess}
use Rattle.set_model.proofs.Tests.{same_is, share_meets, meets_turn}
use Rattle.set_model.proofs.Lists.{any_cases, any_here, any_there, in_any, find_in, in_enter_new, in_enter_old, in_enter_only, in_without, behind_apart}

pub enter_maps : (r : Region) (l : List Region) → MapsMore l r (enter r l)
enter_maps r l =
    record {
      old = λ g h m. record { region = m.region; listed = in_enter_old r m.region l m.listed; maps = m.maps };
      new = λ g h m. record { region = r; listed = in_enter_new r l; maps = m };
      only = λ g h m. go g h m.region m.maps (in_enter_only r m.region l m.listed);
    }
  where
    go : (g h : ℕ) (x : Region) → RegionMaps x g h → In x l ⊎ (x ≡ r) → Maps l g h ⊎ RegionMaps r g h
    go g h x m (inl a) = inl (record { region = x; listed = a; maps = m })
    go g h x m (inr e) = inr (subst (λ (y : Region). RegionMaps y g h) e m)

-- a region meets none of a list that it does not meet
meets_none : (x y : Region) (l : List Region) → any (meets x) l ≡ false → In y l → meets x y ≡ false
meets_none x y l n j = go (meets x y) refl
  where
    go : (b : Bool) → meets x y ≡ b → b ≡ false
    go true e = never (sym (in_any (meets x) y l j e) ∙ n)
    go false e = refl

-- the first of a set that passes has no page in common with another of the set
rest_apart : (p : Region → Bool) (l : List Region) (y : Region) → Ordered l → any p l ≡ true → In y (without p l) → meets (find p l) y ≡ false
rest_apart p [] y o a i = never (sym a)
rest_apart p (x ∷ xs) y o a i = go (p x) a i (rest_apart p xs y o.2)
  where
    head : any (meets x) xs ≡ false
    head = behind_apart x (x.guest + 4096 * x.pages) xs (omega arith) o.1 o.2

    go : (b : Bool) → pick b true (any p xs) ≡ true → In y (pick b xs (x ∷ without p xs)) → (any p xs ≡ true → In y (without p xs) → meets (find p xs) y ≡ false) → meets (pick b x (find p xs)) y ≡ false
    go true f j more = meets_none x y xs head j
    go false f j more =
        any_cases (same y) x (without p xs) j (λ s. subst (λ (z : Region). meets (find p xs) z ≡ false) (sym (same_is y x s)) (meets_turn x (find p xs) (meets_none x (find p xs) xs head (find_in p xs f)))) (more f)

-- what is in a list is the first that passes, or stays without it
stays : (p : Region → Bool) (l : List Region) (y : Region) → In y l → In y (without p l) ⊎ (y ≡ find p l)
stays p [] y i = never (sym i)
stays p (x ∷ xs) y i = go (p x) (stays p xs y)
  where
    more : In y (without p xs) ⊎ (y ≡ find p xs) → In y (x ∷ without p xs) ⊎ (y ≡ find p xs)
    more (inl a) = inl (any_there (same y) x (without p xs) a)
    more (inr e) = inr e

    go : (b : Bool) → (In y xs → In y (without p xs) ⊎ (y ≡ find p xs)) → In y (pick b xs (x ∷ without p xs)) ⊎ (y ≡ pick b x (find p xs))
    go true rest = any_cases (same y) x xs i (λ s. inr (same_is y x s)) inl
    go false rest = any_cases (same y) x xs i (λ s. inl (any_here (same y) x (without p xs) s)) (λ f. more (rest f))

pub without_maps : (p : Region → Bool) (l : List Region) → Ordered l → any p l ≡ true → MapsLess l (find p l) (without p l)
without_maps p l o a =
    record {
      kept = λ g h m n. kept g h m.region m.maps n (stays p l m.region m.listed);
      only = λ g h m. record { region = m.region; listed = in_without p m.region l m.listed; maps = m.maps };
      gone = λ g h m i. never (sym (share_meets (find p l) m.region (record { page = g; first = i; second = m.maps.inside })) ∙ rest_apart p l m.region o a m.listed);
    }
  where
    kept : (g h : ℕ) (x : Region) → RegionMaps x g h → (InPages (find p l).guest (find p l).pages g → ⊥) → In x (without p l) ⊎ (x ≡ find p l) → Maps (without p l) g h
    kept g h x m n (inl i) = record { region = x; listed = i; maps = m }
    kept g h x m n (inr e) = absurd (n (subst (λ (y : Region). InPages y.guest y.pages g) e m.inside))
