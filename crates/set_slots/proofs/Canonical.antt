-- THE THEOREM of the words of a set: a set in order has one representation. Assumes nothing.
use mathlib.Core.Path.{◌≡◌, refl, sym, ◌∙◌, ap}
use mathlib.Core.List.{List}
use Prim.Native.Nat.{ℕ, zero, suc, ◌+◌, ◌-◌, ◌*◌, ◌/◌, ◌%◌, ◌<◌, ◌≤◌, min}
use lib.ListN.{length, get_or}
use native.Mathlib.Nat.{not-suc-le-zero, le_of_suc-le-suc, add-zero}
use native.Mathlib.Decide.{ℕ_discrete, dec_lt}
use native.Mathlib.Omega.{arith}
use Rattle.address.specs.declared.Region.{Region}
use Rattle.region_words.specs.Words.{nothing, HasRegion}
use Rattle.set_model.specs.Sets.{table}
use Rattle.set_model.proofs.Lists.{table_length}
use Rattle.set_slots.specs.Slots.{slot, regions_in, SetOk}
use Rattle.set_slots.proofs.Order.{own_words}

-- the regions of a table by their place
pub table_at : (f : ℕ → Region) (n i : ℕ) → i < n → get_or (table f n) i nothing ≡ f i
table_at f zero i h = absurd (not-suc-le-zero h)
table_at f (suc n) zero h = refl
table_at f (suc n) (suc i) h = table_at (λ i. f (suc i)) n i (le_of_suc-le-suc h)

-- words of one region
same_four : {z z' : List ℕ} {p : ℕ} {r : Region} → HasRegion z p r → HasRegion z' p r → (j : ℕ) → j < 4 → get_or z (p + j) 0 ≡ get_or z' (p + j) 0
same_four a b zero l = rw add-zero (a.guest ∙ sym b.guest)
same_four a b (suc zero) l = a.host ∙ sym b.host
same_four a b (suc (suc zero)) l = a.pages ∙ sym b.pages
same_four a b (suc (suc (suc zero))) l = a.kind ∙ sym b.kind
same_four a b (suc (suc (suc (suc j)))) l = absurd (omega arith)

module _ (z z' : List ℕ) (at slots : ℕ) (a : SetOk z at slots) (b : SetOk z' at slots) (e : regions_in z at slots ≡ regions_in z' at slots) where
  listed : {y : List ℕ} → SetOk y at slots → regions_in y at slots ≡ table (slot y at) (get_or y at 0)
  unfolding regions_in
  listed {y} s = let few = s.few in let q : min slots (get_or y at 0) ≡ get_or y at 0 = omega arith in ap (table (slot y at)) q

  same_tables : table (slot z at) (get_or z at 0) ≡ table (slot z' at) (get_or z' at 0)
  same_tables = sym (listed a) ∙ (e ∙ listed b)

  same_count : get_or z at 0 ≡ get_or z' at 0
  same_count = sym (table_length (slot z at) (get_or z at 0)) ∙ (ap length same_tables ∙ table_length (slot z' at) (get_or z' at 0))

  same_region : (i : ℕ) → i < get_or z at 0 → slot z at i ≡ slot z' at i
  same_region i l = sym (table_at (slot z at) (get_or z at 0) i l) ∙ (ap (λ (x : List Region). get_or x i nothing) same_tables ∙ table_at (slot z' at) (get_or z' at 0) i (omega (arith, same_count)))

  same_slot : (i j : ℕ) → i < slots → j < 4 → Dec (i < get_or z at 0) → get_or z (at + 1 + 4 * i + j) 0 ≡ get_or z' (at + 1 + 4 * i + j) 0
  same_slot i j h l (yes y) = same_four {z' = z'} (own_words z (at + 1 + 4 * i) (a.kinds i y)) (rw (same_region i y) (own_words z' (at + 1 + 4 * i) (b.kinds i (omega (arith, same_count))))) j l
  same_slot i j h l (no n) = same_four (a.clear i (omega (arith, n)) h) (b.clear i (omega (arith, n, same_count)) h) j l

  -- two memories with sets in order of the same regions have the same words there
  pub canonical : (k : ℕ) → at ≤ k → k < at + 1 + 4 * slots → get_or z k 0 ≡ get_or z' k 0
  canonical k l h = go (ℕ_discrete k at)
    where
      go : Dec (k ≡ at) → get_or z k 0 ≡ get_or z' k 0
      go (yes q) = rw q same_count
      go (no d) =
          let i = (k - at - 1) / 4 in
          let j = (k - at - 1) % 4 in
          let q : at + 1 + 4 * i + j ≡ k = omega (arith, d) in
          rw q at (same_slot i j (omega (arith, d)) (omega arith) (dec_lt i (get_or z at 0)))
