-- When a set is right, by what was read of it. Assumes nothing.
use mathlib.Core.Path.{◌≡◌, sym, ◌∙◌, ap, subst}
use mathlib.Core.Bool.{Bool, true}
use mathlib.Core.List.{List, []}
use Prim.Native.Nat.{ℕ, zero, suc, ◌+◌, ◌≤◌, ◌<◌, suc-le-suc, zero-le}
use lib.Dec.{eqb}
use lib.ListN.{length, get_or}
use borrow.Author.Tests.{eq-eqb, ne_eqb}
use Rattle.base.specs.Says.{Says}
use native.Mathlib.Nat.{not-suc-le-zero, le_of_suc-le-suc}
use native.Mathlib.Omega.{arith}
use Rattle.address.specs.declared.Region.{Region}
use Rattle.config_model.specs.Config.{Config}
use Rattle.config_table.specs.Holding.{IsRegion}
use Rattle.set_model.specs.Sets.{same, In, Every, table}
use Rattle.set_model.proofs.Lists.{table_some, table_in, table_length}
use Rattle.set_model.proofs.Tests.{same_equal}
use Rattle.set_slots.specs.Slots.{slot, regions_in, Lies, SetOk}
use Rattle.set_slots.proofs.Found.{regions_are}
use Rattle.set_claims.specs.declared.Bad.{Bad}
use Rattle.std.specs.Prelude.{Err}
use Rattle.memory_set.specs.declared.NotInOrder.{NotInOrder}
use Rattle.memory_set.specs.Looks.{CheckSays}
use Rattle.machine.specs.declared.Which.{Which}
use Rattle.machine.specs.declared.Which.TheVariants.{Processors, Devices}
use Rattle.machine.specs.Good.{given}
use Rattle.zones.specs.Layout.{stride, set_at}
use Rattle.hv_set_right.specs.Right.{IsGiven, SetRight}

-- ---- an answer that is a test of two numbers

pub says_yes : {P : Type 0} (a b : ℕ) → a ≡ b → P → Says (eqb a b) P
says_yes {P} a b e p = subst (λ (x : Bool). Says x P) (sym (eq-eqb a b e)) p

pub says_no : {P : Type 0} (a b : ℕ) → (a ≡ b → ⊥) → (P → ⊥) → Says (eqb a b) P
says_no {P} a b d n = subst (λ (x : Bool). Says x P) (sym (ne_eqb a b d)) n

-- ---- one region

-- a region of machine m is given to it
pub given_yes : {r s : Region} (c : Config) (m i : ℕ) → r ≡ s → IsRegion c m i r → In s (table (c.region m) (c.count m))
given_yes {r} {s} c m i e h = table_some (same s) (c.region m) (c.count m) i h.region (same_equal s (c.region m i) (sym e ∙ h.is))

-- and no other
pub given_no : {r s : Region} (c : Config) (m : ℕ) → r ≡ s → ((k : ℕ) → k < c.count m → r ≡ c.region m k → ⊥) → In s (table (c.region m) (c.count m)) → ⊥
given_no {r} {s} c m e none h = let x = table_in s (c.region m) (c.count m) h in none x.0 x.1 (e ∙ x.2)

-- ---- all regions

-- all pass where each does
every_table : (p : Region → Bool) (f : ℕ → Region) (n : ℕ) → ((i : ℕ) → i < n → p (f i) ≡ true) → Every p (table f n)
every_table p f zero h = tt
every_table p f (suc n) h = (h zero (suc-le-suc zero-le), every_table p (λ i. f (suc i)) n (λ i l. h (suc i) (suc-le-suc l)))

-- and each where all do
table_every : (p : Region → Bool) (f : ℕ → Region) (n i : ℕ) → Every p (table f n) → i < n → p (f i) ≡ true
table_every p f zero i a l = absurd (not-suc-le-zero l)
table_every p f (suc n) zero a l = a.0
table_every p f (suc n) (suc i) a l = table_every p (λ i. f (suc i)) n i a.1 (le_of_suc-le-suc l)

-- ---- the set, which lies at `at`

module _ (c : Config) (z : List ℕ) (m flag at slots n here : ℕ) (w : Which) (place : here ≡ at) (lies : Lies z here slots) (ok : SetOk z here slots) (e : n ≡ get_or z here 0) where
  -- its regions, by the count as it is read
  regions : regions_in z here slots ≡ table (slot z here) n
  regions = regions_are (record { lies = lies; few = ok.few }) e

  -- what is right here is right there
  moved : SetRight c z m w flag here slots → SetRight c z m w flag at slots
  moved h = subst (λ (x : ℕ). SetRight c z m w flag x slots) place h

  back : SetRight c z m w flag at slots → SetRight c z m w flag here slots
  back h = subst (λ (x : ℕ). SetRight c z m w flag x slots) (sym place) h

  -- one without regions
  pub right_empty : n ≡ 0 → SetRight c z m w flag at slots
  right_empty q =
      let none : regions_in z here slots ≡ [] = regions ∙ ap (table (slot z here)) q in
      moved (record { ok = ok; whole = subst (λ (l : List Region). Every (given c m w) l) (sym none) tt; empty = λ f. none })

  -- one with regions, of a machine that is not there
  pub wrong_absent : (n ≡ 0 → ⊥) → (flag ≡ 1 → ⊥) → SetRight c z m w flag at slots → ⊥
  wrong_absent some f h = some (sym (table_length (slot z here) n) ∙ ap (length {A = Region}) (sym regions ∙ (back h).empty f))

  -- one whose regions are all given
  pub right_given : flag ≡ 1 → ((k : ℕ) → k < n → IsGiven c m z here k) → SetRight c z m w flag at slots
  right_given f g =
      moved
      (record {
        ok = ok;
        whole = subst (λ (l : List Region). Every (given c m w) l) (sym regions) (every_table (given c m w) (slot z here) n g);
        empty = λ d. absurd (d f);
      })

  -- and only then
  pub given_all : SetRight c z m w flag at slots → (k : ℕ) → k < n → IsGiven c m z here k
  given_all h k l = table_every (given c m w) (slot z here) n k (subst (λ (l : List Region). Every (given c m w) l) regions (back h).whole) l

-- the words of a machine's set are its words
pub set_inside : (z : List ℕ) (place slots here : ℕ) (w : Which) → here ≡ set_at place slots w → place + stride slots ≤ length z → Lies z here slots
set_inside z place slots here Processors e l = omega arith
set_inside z place slots here Devices e l = omega arith

-- one that is not in order
pub wrong_order : (c : Config) (z : List ℕ) (m flag at slots here : ℕ) (w : Which) → here ≡ at → (SetOk z here slots → ⊥) → SetRight c z m w flag at slots → ⊥
wrong_order c z m flag at slots here w place n h = n (subst (λ (x : ℕ). SetOk z x slots) (sym place) h.ok)

-- one whose words are there, and which `check` refuses
pub not_in_order : (z : List ℕ) (at slots : ℕ) (why : NotInOrder) → Lies z at slots → CheckSays z at slots (Err why) → SetOk z at slots → ⊥
not_in_order z at slots (NotInOrder.Bad Bad.NoSet) lies n h = n lies
not_in_order z at slots (NotInOrder.Bad Bad.Corrupt) lies n h = n.broken h
not_in_order z at slots (NotInOrder.Wrong i) lies n h = n.broken h
