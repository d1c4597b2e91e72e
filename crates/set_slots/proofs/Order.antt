-- A set is in order exactly if each of its slots is right. Assumes nothing.
use mathlib.Core.Path.{◌≡◌, refl, sym, ◌∙◌, subst}
use mathlib.Core.Bool.{Bool}
use mathlib.Core.List.{List}
use Prim.Native.Nat.{ℕ, zero, suc, ◌+◌, ◌*◌, ◌≤◌, ◌<◌, suc-le-suc, zero-le}
use lib.ListN.{get_or}
use native.Mathlib.Nat.{not-suc-le-zero, le_of_suc-le-suc}
use native.Mathlib.Numerals.{add-one}
use native.Mathlib.Omega.{arith}
use Rattle.base.specs.Says.{Says}
use Rattle.base.proofs.Says.{says_same}
use Rattle.address.specs.declared.Region.{Region}
use Rattle.address.specs.Regions.{Valid}
use Rattle.region_words.specs.Words.{region_of, HasRegion}
use Rattle.region_words.proofs.Laws.{number_back, number_small}
use Rattle.set_model.specs.Sets.{table, From, Ordered}
use Rattle.set_slots.specs.Slots.{slot, Readable, Empty, Follows, UsedOk, SetOk}
use Rattle.set_slots.proofs.Found.{regions_are}

-- ---- the words of one slot

-- the words are those of the region that they are read as, where the kind's number is one
pub own_words : (z : List ℕ) (p : ℕ) → get_or z (p + 3) 0 ≤ 2 → HasRegion z p (region_of z p)
unfolding region_of
own_words z p l = record { guest = refl; host = refl; pages = refl; kind = sym (number_back (get_or z (p + 3) 0) l) }

-- and so the kind's number of words that are a region's is one
pub own_kind : {z : List ℕ} {p : ℕ} {r : Region} → HasRegion z p r → get_or z (p + 3) 0 ≤ 2
own_kind {r = r} h = let e = h.kind in let s = number_small r.kind in omega arith

-- the first slot has none before it
pub first_used : {z : List ℕ} {at i : ℕ} {r : Region} → i ≡ 0 → r ≡ slot z at i → HasRegion z (at + 1 + 4 * i) r → Valid r.guest r.host r.pages → UsedOk z at i
first_used e g h v = record { kind = own_kind h; valid = rw (← g) v; follows = λ j q. absurd (omega arith) }

-- another slot is right exactly if it follows the one before it
pub used_said : {z : List ℕ} {i : ℕ} {r before : Region} (at m : ℕ) (b : Bool) → m + 1 ≡ i → r ≡ slot z at i → before ≡ slot z at m → HasRegion z (at + 1 + 4 * i) r → Valid r.guest r.host r.pages → Says b (Follows before r) → Says b (UsedOk z at i)
used_said {z} {i} {r} {before} at m b e g f h v s = says_same b to back s
  where
    to : Follows before r → UsedOk z at i
    to l = record { kind = own_kind h; valid = rw (← g) v; follows = λ j q. let k : j ≡ m = omega arith in rw (k, ← g, ← f) l }

    back : UsedOk z at i → Follows before r
    back u = rw (g, f) (u.follows m e)

-- ---- order, by slots

-- valid regions, each of which follows the one before it, are in order
in_order : (f : ℕ → Region) (n : ℕ) → ((i : ℕ) → i < n → Valid (f i).guest (f i).host (f i).pages) → ((i : ℕ) → suc i < n → Follows (f i) (f (suc i))) → Ordered (table f n)
in_order f zero v s = tt
in_order f (suc n) v s = (v zero (suc-le-suc zero-le), first n s, in_order (λ i. f (suc i)) n (λ i l. v (suc i) (suc-le-suc l)) (λ i l. s (suc i) (suc-le-suc l)))
  where
    first : (n : ℕ) → ((i : ℕ) → suc i < suc n → Follows (f i) (f (suc i))) → From ((f zero).guest + 4096 * (f zero).pages) (table (λ i. f (suc i)) n)
    first zero s = tt
    first (suc n) s = s zero (suc-le-suc (suc-le-suc zero-le))

-- and the other way round
pub valid_in : (f : ℕ → Region) (n i : ℕ) → Ordered (table f n) → i < n → Valid (f i).guest (f i).host (f i).pages
valid_in f zero i o l = absurd (not-suc-le-zero l)
valid_in f (suc n) zero o l = o.0
valid_in f (suc n) (suc i) o l = valid_in (λ i. f (suc i)) n i o.2 (le_of_suc-le-suc l)

follows_in : (f : ℕ → Region) (n i : ℕ) → Ordered (table f n) → suc i < n → Follows (f i) (f (suc i))
follows_in f zero i o l = absurd (not-suc-le-zero l)
follows_in f (suc zero) i o l = absurd (omega arith)
follows_in f (suc (suc n)) zero o l = o.1
follows_in f (suc (suc n)) (suc i) o l = follows_in (λ i. f (suc i)) (suc n) i o.2 (le_of_suc-le-suc l)

-- ---- the set, by slots

-- where each slot is right the set is in order
pub set_is_ok : {z : List ℕ} {at slots n : ℕ} → Readable z at slots → n ≡ get_or z at 0 → ((i : ℕ) → i < n → UsedOk z at i) → ((i : ℕ) → n ≤ i → i < slots → Empty z at i) → SetOk z at slots
set_is_ok {z} {at} {slots} {n} r e used left =
    record {
      few = r.few;
      kinds = λ i l. (used i (omega arith)).kind;
      clear = λ i l h. left i (omega arith) h;
      ordered = rw (regions_are r e) (in_order (slot z at) n (λ i l. (used i l).valid) (λ i l. (used (suc i) l).follows i (add-one i)));
    }

-- and in a set in order each is
pub used_in_set : {z : List ℕ} {at slots n : ℕ} → Readable z at slots → n ≡ get_or z at 0 → SetOk z at slots → (i : ℕ) → i < n → UsedOk z at i
used_in_set {z} {at} {slots} {n} r e s i l =
    record {
      kind = s.kinds i (omega arith);
      valid = valid_in (slot z at) n i o l;
      follows = λ j q. next j (sym (add-one j) ∙ q);
    }
  where
    o : Ordered (table (slot z at) n)
    o = subst Ordered (regions_are r e) s.ordered

    next : (j : ℕ) → suc j ≡ i → Follows (slot z at j) (slot z at i)
    next j q = subst (λ (k : ℕ). Follows (slot z at j) (slot z at k)) q (follows_in (slot z at) n j o (omega arith))
