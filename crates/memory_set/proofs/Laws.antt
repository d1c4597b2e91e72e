-- What follows for the whole set from what was found in a slot. Assumes nothing.
use mathlib.Core.Path.{◌≡◌, refl, sym, ◌∙◌, ap, subst}
use mathlib.Core.Bool.{Bool}
use mathlib.Core.List.{List}
use Prim.Native.Nat.{ℕ, zero, suc, ◌≤◌, ◌<◌}
use lib.ListN.{get_or}
use native.Mathlib.Decide.{dec_lt}
use native.Mathlib.Omega.{arith}
use borrow.Author.Rules.{rules}
use borrow.Author.Tests.{ne_eqb, lt-ltb, le-ltb}
use lib.Dec.{eqb, ltb}
use Rattle.std.specs.Prelude.{Result, Ok, Err}
use Rattle.std.specs.Result.{IsOk}
use Rattle.base.proofs.Choices.{not_failed}
use Rattle.base.specs.Search.{Stops}
use Rattle.address.specs.declared.Region.{Region}
use Rattle.address.specs.Pages.{Contains}
use Rattle.address.specs.Regions.{Valid, TranslateSays, host_of}
use Rattle.address.specs.declared.Untranslated.{Untranslated}
use Rattle.address.proofs.Theorems.{host_fits}
use Rattle.set_model.specs.Sets.{covers, table, any, none}
use Rattle.set_model.proofs.Tests.{covers_contains}
use Rattle.set_slots.specs.Slots.{slot, regions_in, Readable, Fails, Empty, UsedOk, SetOk}
use Rattle.set_slots.proofs.Found.{regions_are, none_found, some_found, found_is}
use Rattle.set_slots.proofs.Order.{set_is_ok, used_in_set}
use Rattle.memory_set.specs.Looks.{host_in, Reaches, FirstWrong}

-- ---- whether there are regions

-- there are none exactly if the count is 0
pub none_said : {z : List ℕ} {at slots n : ℕ} → Readable z at slots → n ≡ get_or z at 0 → none (regions_in z at slots) ≡ eqb n 0
none_said {z} {at} {slots} {n} d e = rw (regions_are d e) (go n)
  where
    go : (n : ℕ) → none (table (slot z at) n) ≡ eqb n 0
    go zero = refl
    go (suc n) = sym (ne_eqb (suc n) 0 (λ e. omega arith))

-- one passes a test exactly if a search for it stopped before the count
pub any_said : {z : List ℕ} {at slots n i : ℕ} (t : Region → Bool) → Readable z at slots → n ≡ get_or z at 0 → Stops (Fails t z at) 0 n i → any t (regions_in z at slots) ≡ ltb i n
any_said {z} {at} {slots} {n} {i} t d e s = go (dec_lt i n)
  where
    go : Dec (i < n) → any t (regions_in z at slots) ≡ ltb i n
    go (yes l) = some_found t i d e s l ∙ sym (lt-ltb i n l)
    go (no f) = none_found t i d e s (omega (arith, f)) ∙ sym (le-ltb i n (omega (arith, f)))

-- ---- translation

-- the host address by the region in the slot that was found
module _ {z : List ℕ} {at slots n i : ℕ} (addr : ℕ) {r : Region} (d : Readable z at slots) (e : n ≡ get_or z at 0) (s : Stops (Fails (covers addr) z at) 0 n i) (l : i < n) (g : r ≡ slot z at i) where
  by_region : host_of r.guest r.host addr ≡ host_in (regions_in z at slots) addr
  by_region = ap (λ (x : Region). host_of x.guest x.host addr) (g ∙ sym (found_is (covers addr) i d e s l))

  pub reaches : {h : ℕ} → h ≡ host_of r.guest r.host addr → Reaches z at slots addr h
  reaches q = record { readable = d; covered = some_found (covers addr) i d e s l; is = q ∙ by_region }

  -- the region has the address
  has_it : Contains r.guest r.pages addr
  has_it = covers_contains addr r (ap (covers addr) g ∙ not_failed (covers addr (slot z at i)) (s.fails l))

  -- where its slot is right the address has a translation
  pub translates : UsedOk z at i → (o : Result ℕ Untranslated) → TranslateSays r.guest r.host r.pages addr o → IsOk o
  translates u (Ok h) s = search rules
  translates u (Err Untranslated.Outside) s = absurd (s has_it)
  translates u (Err Untranslated.Beyond) s =
      let h = host_fits (subst (λ (x : Region). Valid x.guest x.host x.pages) (sym g) u.valid) has_it in let b = s.1 in absurd (omega arith)

-- ---- order

-- the first slot that is not right holds a region
pub wrong_used : {z : List ℕ} {at slots n i : ℕ} → Readable z at slots → n ≡ get_or z at 0 → Stops (UsedOk z at) 0 n i → i < n → FirstWrong z at slots i
wrong_used {z} {at} {slots} {n} {i} d e s l =
    record {
      readable = d;
      within = let few = d.few in omega arith;
      before = λ j h. record { used = λ a. s.before j (omega arith) h; unused = λ a. absurd (omega arith) };
      fails = λ ok. s.fails l (ok.used (omega arith));
      broken = λ ok. s.fails l (used_in_set d e ok i l);
    }

-- or is one of those that should hold nothing
pub wrong_unused : {z : List ℕ} {at slots n i j : ℕ} → Readable z at slots → n ≡ get_or z at 0 → Stops (UsedOk z at) 0 n i → n ≤ i → Stops (Empty z at) n slots j → j < slots → FirstWrong z at slots j
wrong_unused {z} {at} {slots} {n} {i} {j} d e s l u h =
    record {
      readable = d;
      within = h;
      before = λ k b. record { used = λ a. s.before k (omega arith) (omega arith); unused = λ a. u.before k (omega arith) b };
      fails = λ ok. u.fails h (ok.unused (let low = u.low in omega arith));
      broken = λ ok. u.fails h (ok.clear j (let low = u.low in omega arith) h);
    }

-- or there is none
pub all_right : {z : List ℕ} {at slots n i j : ℕ} → Readable z at slots → n ≡ get_or z at 0 → Stops (UsedOk z at) 0 n i → n ≤ i → Stops (Empty z at) n slots j → slots ≤ j → SetOk z at slots
all_right d e s l u h = set_is_ok d e (λ k b. s.before k (omega arith) (omega arith)) (λ k a b. u.before k a (omega arith))
