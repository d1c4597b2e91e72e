-- What becomes of a set whose slots and count were written. Assumes nothing.
use mathlib.Core.Path.{◌≡◌, sym, ◌∙◌, ap}
use mathlib.Core.Bool.{Bool, false}
use mathlib.Core.List.{List, []}
use Prim.Native.Nat.{ℕ, zero, suc, ◌+◌, ◌*◌, ◌≤◌, ◌<◌}
use lib.Dec.{ltb}
use lib.ListN.{get_or, set}
use lib.Seq.{get_or-set_same}
use native.Mathlib.Decide.{ℕ_discrete, dec_lt}
use native.Mathlib.Numerals.{add-one}
use native.Mathlib.Omega.{arith}
use Rattle.base.proofs.Choices.{not_failed}
use borrow.Author.Tests.{ltb-true, ltb-false}
use Rattle.base.specs.Ranges.{Only}
use Rattle.base.specs.Search.{Stops}
use Rattle.address.specs.declared.Region.{Region}
use Rattle.address.specs.Regions.{Valid}
use Rattle.region_words.specs.Words.{nothing, HasRegion, Put}
use Rattle.region_words.proofs.Laws.{region_back, put_only}
use Rattle.set_model.specs.Sets.{any, meets, enter, without, table}
use Rattle.set_model.proofs.Lists.{table_enter, table_without, enter_ordered, without_ordered}
use Rattle.set_slots.specs.Slots.{slot, regions_in, Lies, Readable, Fails, above, Empty, SetOk, Became}
use Rattle.set_slots.proofs.Found.{regions_are}
use Rattle.set_slots.proofs.Order.{own_kind}
use Rattle.set_shifts.specs.Shifts.{ShiftedUp, ShiftedDown, Wiped}
use Rattle.base.proofs.Ranges.{set_only, only_then}
use Rattle.set_shifts.proofs.Kept.{region_same, words_same}

-- the words of z outside those of the slots that changed, once the count is written too
kept : {z z' : List ℕ} {a b : ℕ} (at v k : ℕ) → Only z a b z' → at < k → (a ≤ k → k < b → ⊥) → get_or (set z' at v) k 0 ≡ get_or z k 0
kept {z' = z'} at v k o l d = (set_only z' at v).others k (λ x y. omega arith) ∙ o.others k d

-- the regions that stand in slots, once the count is written too
counted : {z : List ℕ} {r : Region} (at v i : ℕ) → HasRegion z (at + 1 + 4 * i) r → HasRegion (set z at v) (at + 1 + 4 * i) r
counted {z} at v i h = words_same (set_only z at v) (λ x y. omega arith) h

-- ---- a region went in at p

module _ {z z1 z2 : List ℕ} {at slots n p : ℕ} {r : Region} (d : Readable z at slots) (hn : n ≡ get_or z at 0) (hc : n < slots) (w : Stops (Fails (above r.guest) z at) 0 n p) (u : ShiftedUp z at p n z1) (q : Put z1 (at + 1 + 4 * p) r z2) where
  in_changed : Only z (at + 1 + 4 * p) (at + 1 + 4 * (n + 1)) z2
  in_changed = let h = w.high in only_then (at + 1 + 4 * p) (at + 1 + 4 * (n + 1)) u.only (put_only q) (omega arith) (omega arith) (omega arith) (omega arith)

  in_only : Only z at (at + 1 + 4 * slots) (set z2 at (n + 1))
  in_only = only_then at (at + 1 + 4 * slots) in_changed (set_only z2 at (n + 1)) (omega arith) (omega arith) (omega arith) (omega arith)

  in_count : get_or (set z2 at (n + 1)) at 0 ≡ n + 1
  in_count = get_or-set_same z2 at (n + 1) 0 (omega (arith, in_changed.long, d.lies))

  in_low : (j : ℕ) → j < p → slot (set z2 at (n + 1)) at j ≡ slot z at j
  in_low j l = region_same (at + 1 + 4 * j) (set_only z2 at (n + 1)) (λ x y. omega arith) ∙ region_same (at + 1 + 4 * j) in_changed (λ x y. omega arith)

  in_high : (j : ℕ) → p ≤ j → j < n → HasRegion (set z2 at (n + 1)) (at + 1 + 4 * (j + 1)) (slot z at j)
  in_high j l h = counted at (n + 1) (j + 1) (words_same (put_only q) (λ x y. omega arith) (u.moved j l h))

  in_readable : Readable (set z2 at (n + 1)) at slots
  in_readable = record { lies = omega (arith, in_only.long, d.lies); few = omega (arith, in_count) }

  in_is : regions_in (set z2 at (n + 1)) at slots ≡ enter r (regions_in z at slots)
  in_is =
      rw (regions_are d hn)
      (regions_are in_readable (sym in_count) ∙ (ap (table (slot (set z2 at (n + 1)) at)) (add-one n)
      ∙ table_enter r (slot z at) (slot (set z2 at (n + 1)) at) n p w.high (λ j l. ltb-false r.guest (slot z at j).guest (w.before j (omega arith) l)) (λ l. ltb-true r.guest (slot z at p).guest (not_failed (ltb r.guest (slot z at p).guest) (w.fails l)))
      in_low (region_back _ _ r (counted at (n + 1) p q.has)) (λ j l h. rw (← add-one j) (region_back _ _ (slot z at j) (in_high j l h)))))

  in_kinds : SetOk z at slots → (i : ℕ) → i < n + 1 → Dec (i < p) → Dec (i ≡ p) → get_or (set z2 at (n + 1)) (at + 1 + 4 * i + 3) 0 ≤ 2
  in_kinds s i l (yes y) e = rw (kept at (n + 1) (at + 1 + 4 * i + 3) in_changed (omega arith) (λ a b. omega arith)) (s.kinds i (let h = w.high in omega arith))
  in_kinds s i l (no g) (yes e) = rw e (own_kind (counted at (n + 1) p q.has))
  in_kinds s zero l (no g) (no e) = absurd (omega (arith, g, e))
  in_kinds s (suc i) l (no g) (no e) = rw (← add-one i) (own_kind (in_high i (omega (arith, g, e)) (omega arith)))

  pub inserted : Valid r.guest r.host r.pages → any (meets r) (regions_in z at slots) ≡ false → Became z at slots (enter r (regions_in z at slots)) (set z2 at (n + 1))
  inserted v e =
      record {
        only = in_only;
        is = in_is;
        ok = λ s. record {
          few = in_readable.few;
          kinds = λ i l. in_kinds s i (omega (arith, in_count)) (dec_lt i p) (ℕ_discrete i p);
          clear = λ i l h. let g : n + 1 ≤ i = omega (arith, in_count) in counted at (n + 1) i (words_same in_changed (λ x y. omega arith) (s.clear i (omega arith) h));
          ordered = rw in_is (enter_ordered r (regions_in z at slots) v s.ordered e);
        };
      }

-- ---- the region at p went out

module _ {z z1 z2 : List ℕ} {at slots n p : ℕ} (t : Region → Bool) (m : ℕ) (d : Readable z at slots) (hn : n ≡ get_or z at 0) (hm : m + 1 ≡ n) (lt : p < n) (w : Stops (Fails t z at) 0 n p) (u : ShiftedDown z at p m z1) (q : Put z1 (at + 1 + 4 * m) nothing z2) where
  out_changed : Only z (at + 1 + 4 * p) (at + 1 + 4 * n) z2
  out_changed = only_then (at + 1 + 4 * p) (at + 1 + 4 * n) u.only (put_only q) (omega arith) (omega arith) (omega arith) (omega arith)

  out_only : Only z at (at + 1 + 4 * slots) (set z2 at m)
  out_only = let few = d.few in only_then at (at + 1 + 4 * slots) out_changed (set_only z2 at m) (omega arith) (omega arith) (omega arith) (omega arith)

  out_count : get_or (set z2 at m) at 0 ≡ m
  out_count = get_or-set_same z2 at m 0 (omega (arith, out_changed.long, d.lies))

  out_low : (j : ℕ) → j < p → slot (set z2 at m) at j ≡ slot z at j
  out_low j l = region_same (at + 1 + 4 * j) (set_only z2 at m) (λ x y. omega arith) ∙ region_same (at + 1 + 4 * j) out_changed (λ x y. omega arith)

  out_high : (j : ℕ) → p ≤ j → j < m → HasRegion (set z2 at m) (at + 1 + 4 * j) (slot z at (j + 1))
  out_high j l h = counted at m j (words_same (put_only q) (λ x y. omega arith) (u.moved j l h))

  out_readable : Readable (set z2 at m) at slots
  out_readable = record { lies = omega (arith, out_only.long, d.lies); few = omega (arith, out_count, d.few) }

  out_is : regions_in (set z2 at m) at slots ≡ without t (regions_in z at slots)
  out_is =
      rw (regions_are d hn, ← hm, add-one)
      (regions_are out_readable (sym out_count)
      ∙ table_without t (slot z at) (slot (set z2 at m) at) m p (omega arith) (λ j l. w.before j (omega arith) l) (not_failed (t (slot z at p)) (w.fails lt)) out_low (λ j l h. rw (← add-one j) (region_back _ _ (slot z at (j + 1)) (out_high j l h))))

  out_kinds : SetOk z at slots → (i : ℕ) → i < m → Dec (i < p) → get_or (set z2 at m) (at + 1 + 4 * i + 3) 0 ≤ 2
  out_kinds s i l (yes y) = rw (kept at m (at + 1 + 4 * i + 3) out_changed (omega arith) (λ a b. omega arith)) (s.kinds i (omega arith))
  out_kinds s i l (no g) = own_kind (out_high i (omega (arith, g)) l)

  out_clear : SetOk z at slots → (i : ℕ) → m ≤ i → i < slots → Dec (i ≡ m) → Empty (set z2 at m) at i
  out_clear s i l h (yes e) = rw e (counted at m m q.has)
  out_clear s i l h (no g) = counted at m i (words_same out_changed (λ x y. omega (arith, g)) (s.clear i (omega (arith, g)) h))

  pub removed : Became z at slots (without t (regions_in z at slots)) (set z2 at m)
  removed =
      record {
        only = out_only;
        is = out_is;
        ok = λ s. record {
          few = out_readable.few;
          kinds = λ i l. out_kinds s i (omega (arith, out_count)) (dec_lt i p);
          clear = λ i l h. out_clear s i (omega (arith, out_count)) h (ℕ_discrete i m);
          ordered = rw out_is (without_ordered t (regions_in z at slots) s.ordered);
        };
      }

-- ---- all regions went out

module _ {z z1 : List ℕ} {at slots : ℕ} (lies : Lies z at slots) (u : Wiped z at slots z1) where
  pub none_only : Only z at (at + 1 + 4 * slots) (set z1 at 0)
  none_only = only_then at (at + 1 + 4 * slots) u.only (set_only z1 at 0) (omega arith) (omega arith) (omega arith) (omega arith)

  pub none_count : get_or (set z1 at 0) at 0 ≡ 0
  none_count = get_or-set_same z1 at 0 0 (omega (arith, u.only.long))

  pub none_clear : (i : ℕ) → i < slots → Empty (set z1 at 0) at i
  none_clear i l = counted at 0 i (u.clear i l)

  none_readable : Readable (set z1 at 0) at slots
  none_readable = record { lies = omega (arith, none_only.long); few = omega (arith, none_count) }

  pub none_is : regions_in (set z1 at 0) at slots ≡ []
  none_is = regions_are {n = 0} none_readable (sym none_count)

  pub none_ok : SetOk (set z1 at 0) at slots
  none_ok = record { few = none_readable.few; kinds = λ i l. absurd (omega (arith, none_count)); clear = λ i a l. none_clear i l; ordered = rw none_is tt }
