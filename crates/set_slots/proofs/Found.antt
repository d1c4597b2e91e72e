-- What a search over the slots of a set finds in the list of its regions. Assumes nothing.
use mathlib.Core.Path.{◌≡◌, sym, ◌∙◌, ap}
use mathlib.Core.Bool.{Bool, true, false}
use mathlib.Core.List.{List}
use Prim.Native.Nat.{ℕ, ◌≤◌, ◌<◌, min}
use lib.ListN.{get_or}
use native.Mathlib.Omega.{arith}
use Rattle.base.specs.Says.{Says}
use Rattle.base.specs.Search.{Stops}
use Rattle.base.proofs.Choices.{never, not_failed}
use Rattle.address.specs.declared.Region.{Region}
use Rattle.address.specs.Pages.{Contains}
use Rattle.set_model.specs.Sets.{any, find, table, covers}
use Rattle.set_model.proofs.Tests.{as_said, covers_contains, contains_covers}
use Rattle.set_model.proofs.Lists.{table_none, table_some, table_find}
use Rattle.set_slots.specs.Slots.{slot, regions_in, Lies, Readable, Fails, FirstPassing}

-- the test of a guest address is what is said of it
pub covers_said : (addr : ℕ) (r : Region) (t : Bool) → Says t (Contains r.guest r.pages addr) → covers addr r ≡ t
covers_said addr r t s = as_said t (covers addr r) s (covers_contains addr r) (contains_covers addr r)

-- a search by a test that answers what t is
pub by_test : {Says : Region → Bool → Type 0} {z : List ℕ} {at n i : ℕ} (t : Region → Bool) → FirstPassing Says z at n i → ((r : Region) (b : Bool) → Says r b → t r ≡ b) → Stops (Fails t z at) 0 n i
by_test t f says =
    record {
      low = omega arith;
      high = f.high;
      before = λ k l h. says _ false (f.before k h);
      fails = λ l e. never (sym (says _ true (f.passes l)) ∙ e);
    }

-- the regions of a set whose count is not above its slots
pub regions_are : {z : List ℕ} {at slots n : ℕ} → Readable z at slots → n ≡ get_or z at 0 → regions_in z at slots ≡ table (slot z at) n
unfolding regions_in
regions_are {z} {at} {slots} {n} r e = let few = r.few in let q : min slots (get_or z at 0) ≡ n = omega arith in ap (table (slot z at)) q

-- the slots that hold regions lie within the words
pub lies_used : {z : List ℕ} {at slots n : ℕ} → Readable z at slots → n ≡ get_or z at 0 → Lies z at n
lies_used d e = let l = d.lies in let f = d.few in omega arith

-- a search that went over all regions
pub none_found : {z : List ℕ} {at slots n : ℕ} (t : Region → Bool) (i : ℕ) → Readable z at slots → n ≡ get_or z at 0 → Stops (Fails t z at) 0 n i → n ≤ i → any t (regions_in z at slots) ≡ false
none_found {z} {at} {slots} {n} t i r e s l = rw (regions_are r e) (table_none t (slot z at) n (λ j h. s.before j (omega arith) (omega arith)))

-- a search that stopped before
pub some_found : {z : List ℕ} {at slots n : ℕ} (t : Region → Bool) (i : ℕ) → Readable z at slots → n ≡ get_or z at 0 → Stops (Fails t z at) 0 n i → i < n → any t (regions_in z at slots) ≡ true
some_found {z} {at} {slots} {n} t i r e s l = rw (regions_are r e) (table_some t (slot z at) n i l (not_failed (t (slot z at i)) (s.fails l)))

-- and what it found
pub found_is : {z : List ℕ} {at slots n : ℕ} (t : Region → Bool) (i : ℕ) → Readable z at slots → n ≡ get_or z at 0 → Stops (Fails t z at) 0 n i → i < n → find t (regions_in z at slots) ≡ slot z at i
found_is {z} {at} {slots} {n} t i r e s l = rw (regions_are r e) (table_find t (slot z at) n i l (not_failed (t (slot z at i)) (s.fails l)) (λ j h. s.before j (omega arith) h))
