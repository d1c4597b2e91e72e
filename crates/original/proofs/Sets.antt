-- Sets of regions in order. Assumes nothing.
use mathlib.Core.Path.{◌≡◌, refl, sym, ◌∙◌, ap, subst, fun_ext}
use mathlib.Core.Bool.{Bool, true, false, not, ◌&&◌, ◌||◌}
use mathlib.Core.Logic.{◌⊎◌, inl, inr}
use mathlib.Core.List.{List, [], ◌∷◌}
use Prim.Native.Nat.{ℕ, ◌+◌, ◌*◌, ◌/◌}
use native.Mathlib.Omega.{arith}
use borrow.Author.Tests.{eqb-true}
use Rattle.base.specs.Choices.{pick}
use Rattle.base.proofs.Choices.{never, not_passed}
use Rattle.address.specs.declared.Region.{Region}
use Rattle.address.specs.Regions.{Valid}
use Rattle.set_model.specs.Sets.{same, meets, starts, covers, any, none, find, In, enter, without, Ordered}
use Rattle.set_model.proofs.Tests.{same_is, same_self, same_equal, share_meets, meets_turn, meets_self, covers_contains, contains_covers}
use Rattle.set_model.proofs.Lists.{any_here, any_cases, in_any, find_in, find_passes, in_enter_new, in_enter_old, in_enter_only, in_without, in_without_stays, behind_apart}
use Rattle.original.specs.Terms.{Set, nothing, union, difference, region_set, just}

-- every region of a set in order is valid
pub in_valid : (r : Region) (l : List Region) → In r l → Ordered l → Valid r.guest r.host r.pages
in_valid r [] i o = never (sym i)
in_valid r (x ∷ xs) i o = any_cases (same r) x xs i (λ e. subst (λ (y : Region). Valid y.guest y.host y.pages) (sym (same_is r x e)) o.0) (λ e. in_valid r xs e o.2)

-- what stands behind a region of a set in order does not meet it
behind : (x q : Region) (xs : List Region) → Ordered (x ∷ xs) → In q xs → meets x q ≡ false
behind x q xs o i = not_passed (meets x q) (λ e. never (sym (in_any (meets x) q xs i e) ∙ behind_apart x (x.guest + 4096 * x.pages) xs (omega arith) o.1 o.2))

-- Two regions of a set in order that are not the same have no guest page in common.
pub no_two_meet : (r q : Region) (l : List Region) → Ordered l → In r l → In q l → (r ≡ q → ⊥) → meets r q ≡ false
no_two_meet r q [] o i j d = never (sym i)
no_two_meet r q (x ∷ xs) o i j d =
    any_cases (same r) x xs i
    (λ e. any_cases (same q) x xs j (λ f. absurd (d (same_is r x e ∙ sym (same_is q x f)))) (λ f. subst (λ (y : Region). meets y q ≡ false) (sym (same_is r x e)) (behind x q xs o f)))
    (λ e. any_cases (same q) x xs j (λ f. subst (λ (y : Region). meets r y ≡ false) (sym (same_is q x f)) (meets_turn x r (behind x r xs o e))) (λ f. no_two_meet r q xs o.2 e f d))

-- Two regions that have a guest address in common are the same: by a start, or by any address.
pub covered_once : (r q : Region) (addr : ℕ) (l : List Region) → Ordered l → In r l → In q l → covers addr r ≡ true → covers addr q ≡ true → (r ≡ q → ⊥) → ⊥
covered_once r q addr l o i j a b d =
    let x = covers_contains addr r a in
    let y = covers_contains addr q b in
    let v = (in_valid r l i o).on.guest_start in
    let w = (in_valid q l j o).on.guest_start in
    let a0 = x.low in
    let a1 = x.high in
    let b0 = y.low in
    let b1 = y.high in
    never (sym (share_meets r q (record { page = addr / 4096; first = record { low = omega arith; high = omega arith }; second = record { low = omega arith; high = omega arith } })) ∙ no_two_meet r q l o i j d)

-- A region that was taken out is in the set no more.
pub taken_out_gone : (r : Region) (l : List Region) → Ordered l → In r (without (same r) l) → ⊥
taken_out_gone r [] o i = never (sym i)
taken_out_gone r (x ∷ xs) o i = go (taken_out_gone r xs o.2) (same r x) refl i
  where
    go : (In r (without (same r) xs) → ⊥) → (b : Bool) → same r x ≡ b → In r (pick b xs (x ∷ without (same r) xs)) → ⊥
    go rest true e i =
        let s = o.0.on.some in
        never (sym (meets_self x s) ∙ subst (λ (y : Region). meets x y ≡ false) (same_is r x e) (behind x r xs o i))
    go rest false e i = any_cases (same r) x (without (same r) xs) i (λ f. never (sym f ∙ e)) rest

-- Two regions that start at one address are the same.
pub start_once : (r q : Region) (l : List Region) → Ordered l → In r l → In q l → r.guest ≡ q.guest → (r ≡ q → ⊥) → ⊥
start_once r q l o i j e d =
    let a = (in_valid r l i o).on.some in
    let b = (in_valid q l j o).on.some in
    covered_once r q r.guest l o i j (contains_covers r.guest r (record { low = omega arith; high = omega arith })) (contains_covers r.guest q (record { low = omega arith; high = omega arith })) d

-- After the region that starts at an address was taken out, none starts there.
pub none_starts : (guest : ℕ) (l : List Region) → Ordered l → any (starts guest) (without (starts guest) l) ≡ true → ⊥
none_starts guest [] o e = never (sym e)
none_starts guest (x ∷ xs) o e = go (none_starts guest xs o.2) (starts guest x) refl e
  where
    go : (any (starts guest) (without (starts guest) xs) ≡ true → ⊥) → (b : Bool) → starts guest x ≡ b → any (starts guest) (pick b xs (x ∷ without (starts guest) xs)) ≡ true → ⊥
    go rest true f h =
        let q = find (starts guest) xs in
        let i = find_in (starts guest) xs h in
        let s = eqb-true x.guest guest f in
        let u = eqb-true q.guest guest (find_passes (starts guest) xs h) in
        let a = o.0.on.some in
        let b = (in_valid q xs i o.2).on.some in
        never (sym (share_meets x q (record { page = guest / 4096; first = record { low = omega arith; high = omega arith }; second = record { low = omega arith; high = omega arith } })) ∙ behind x q xs o i)
    go rest false f h = any_cases (starts guest) x (without (starts guest) xs) h (λ g. never (sym g ∙ f)) rest

-- ---- as sets

-- There is no region exactly if the set is empty.
pub none_empty : (l : List Region) → none l ≡ true → region_set l ≡ nothing
none_empty [] e = refl
none_empty (x ∷ xs) e = never (sym e)

pub empty_none : (l : List Region) → region_set l ≡ nothing → none l ≡ true
empty_none [] e = refl
empty_none (x ∷ xs) e = never (sym (any_here (same x) x xs (same_self x)) ∙ ap (λ (s : Set Region). s x) e)

-- A region that entered is inserted.
pub enter_set : (r : Region) (l : List Region) → region_set (enter r l) ≡ union (region_set l) (just r)
enter_set r l = fun_ext (λ q. go q (any (same q) l) (same q r) refl refl)
  where
    neither : (q : Region) → any (same q) l ≡ false → same q r ≡ false → In q l ⊎ (q ≡ r) → ⊥
    neither q e f (inl i) = never (sym i ∙ e)
    neither q e f (inr i) = never (sym (same_equal q r i) ∙ f)

    go : (q : Region) (x y : Bool) → any (same q) l ≡ x → same q r ≡ y → any (same q) (enter r l) ≡ (x || y)
    go q true y e f = in_enter_old r q l e
    go q false true e f = subst (λ (z : Region). In z (enter r l)) (sym (same_is q r f)) (in_enter_new r l)
    go q false false e f = not_passed (any (same q) (enter r l)) (λ i. neither q e f (in_enter_only r q l i))

-- where r alone of a list passes a test, and nothing does once one is out, it is r that is removed
without_set : (p : Region → Bool) (r : Region) (l : List Region) → p r ≡ true → ((q : Region) → In q l → p q ≡ true → q ≡ r) → (any p (without p l) ≡ true → ⊥)
    → region_set (without p l) ≡ difference (region_set l) (just r)
without_set p r l pass once gone = fun_ext (λ q. go q (any (same q) l) (same q r) refl refl)
  where
    out : (q : Region) → same q r ≡ true → any (same q) (without p l) ≡ false
    out q f = not_passed (any (same q) (without p l)) (λ i. gone (in_any p q (without p l) i (ap p (same_is q r f) ∙ pass)))

    go : (q : Region) (x y : Bool) → any (same q) l ≡ x → same q r ≡ y → any (same q) (without p l) ≡ (x && not y)
    go q true true e f = out q f
    go q true false e f = in_without_stays p q l (not_passed (p q) (λ h. never (sym (same_equal q r (once q e h)) ∙ f))) e
    go q false y e f = not_passed (any (same q) (without p l)) (λ i. never (sym (in_without p q l i) ∙ e))

-- A region that was taken out of a set in order is removed, and so is the one that starts at an address.
pub taken_out_set : (r : Region) (l : List Region) → Ordered l → region_set (without (same r) l) ≡ difference (region_set l) (just r)
taken_out_set r l o = without_set (same r) r l (same_self r) (λ q i h. sym (same_is r q h)) (taken_out_gone r l o)

pub started_set : (guest : ℕ) (l : List Region) → Ordered l → any (starts guest) l ≡ true → region_set (without (starts guest) l) ≡ difference (region_set l) (just (find (starts guest) l))
started_set guest l o e = without_set (starts guest) r l (find_passes (starts guest) l e) (λ q i h. once q i h (same q r) refl) (none_starts guest l o)
  where
    r : Region
    r = find (starts guest) l

    once : (q : Region) → In q l → starts guest q ≡ true → (b : Bool) → same q r ≡ b → q ≡ r
    once q i h true f = same_is q r f
    once q i h false f = absurd (start_once q r l o i (find_in (starts guest) l e) (eqb-true q.guest guest h ∙ sym (eqb-true r.guest guest (find_passes (starts guest) l e))) (λ d. never (sym (same_equal q r d) ∙ f)))
