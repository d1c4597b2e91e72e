-- Where machines lie: inside, and apart from each other. Assumes nothing.
use mathlib.Core.Path.{◌≡◌, refl, sym, ◌∙◌, ap, subst}
use mathlib.Core.List.{List}
use Prim.Native.Nat.{ℕ, zero, suc, ◌+◌, ◌-◌, ◌*◌, ◌/◌, ◌^◌, ◌≤◌, ◌<◌, max}
use lib.Dec.{eqb}
use lib.ListN.{length, get_or}
use Rattle.std.proofs.Common.{Result, Ok, Err}
use native.Mathlib.Nat.{mul-le-mul_left, mul-le-mul_right, mul-div_cancel_left, div-mul-le_self, suc-mul, mul_comm}
use native.Mathlib.Decide.{dec_lt}
use native.Mathlib.Omega.{arith}
use borrow.Author.Tests.{eq-eqb, ne_eqb}
use Rattle.base.proofs.Choices.{lowest_is, lowest_none}
use Rattle.config_model.specs.Config.{Config}
use Rattle.config_table.specs.Holding.{HasNumber, MachineSays}
use Rattle.config_table.specs.declared.Unlisted.{Unlisted}
use Rattle.machine.specs.Step.{machine_of}
use Rattle.config_view.specs.Table.{table_config}
use Rattle.zones.specs.declared.Located.{Located}
use Rattle.zones.specs.declared.NotLocated.{NotLocated}
use Rattle.zones.specs.Layout.{stride, slots_in, place_of, Shaped, Flagged, PresenceTold, IsZone, LookSays, LocateSays, unlisted}

-- the slots as they are computed
pub slots_are : (z : List ℕ) (n a b : ℕ) → a ≡ max n 1 → b ≡ length z / a - 3 → b / 8 ≡ slots_in z n
unfolding slots_in
slots_are z n a b e f = let g : a ≡ max 1 n = omega arith in ap (λ (x : ℕ). x / 8) (f ∙ ap (λ (x : ℕ). length z / x - 3) g)

-- a machine's words end where the next one's begin
pub place_next : (slots m : ℕ) → place_of slots m + stride slots ≡ place_of slots (suc m)
unfolding place_of
place_next slots m = sym (suc-mul m (stride slots))

-- a machine lies before every later one
pub place_before : (slots m n : ℕ) → m < n → place_of slots m + stride slots ≤ place_of slots n
unfolding place_of
place_before slots m n l = rw (← suc-mul m (stride slots)) (mul-le-mul_right (stride slots) l)

-- a machine lies inside
pub place_inside : (z : List ℕ) (n m : ℕ) → Shaped z n → m < n → place_of (slots_in z n) m + stride (slots_in z n) ≤ length z
unfolding place_of
place_inside z n m h l = rw h.exact (place_before (slots_in z n) m n l)

-- the machine with a number, as the table tells it
pub number_is : (c : Config) (number m : ℕ) → HasNumber c number m → machine_of c number ≡ m
number_is c number m h = lowest_is (λ k. eqb (c.number k) number) c.machines m h.machine (eq-eqb (c.number m) number h.is) (λ k l. ne_eqb (c.number k) number (h.first k l))

-- the words are those of n machines if their number is right, and only then
pub shape_right : (z : List ℕ) (n s : ℕ) → s ≡ slots_in z n → (3 + 8 * s) * n ≡ length z → Shaped z n
shape_right z n s e f = record { exact = sym f ∙ ap (λ (x : ℕ). stride x * n) e ∙ mul_comm (stride (slots_in z n)) n }

pub shape_wrong : (z : List ℕ) (n s : ℕ) → s ≡ slots_in z n → ((3 + 8 * s) * n ≡ length z → ⊥) → Shaped z n → ⊥
shape_wrong z n s e f h = f (ap (λ (x : ℕ). stride x * n) e ∙ (mul_comm (stride (slots_in z n)) n ∙ sym h.exact))

-- the place of machine m as it is computed
pub place_is : (z : List ℕ) (n m s : ℕ) → s ≡ slots_in z n → m * (3 + 8 * s) ≡ place_of (slots_in z n) m
unfolding place_of
place_is z n m s e = ap (λ (x : ℕ). m * stride x) e

-- and its first word
pub flag_is : (z : List ℕ) (n m s v : ℕ) → s ≡ slots_in z n → get_or z (m * (3 + 8 * s)) 0 ≡ v → get_or z (place_of (slots_in z n) m) 0 ≡ v
flag_is z n m s v e f = ap (λ (x : ℕ). get_or z x 0) (sym (place_is z n m s e)) ∙ f

-- which is 0 or 1 if it says whether the machine is there
pub flag_wrong : (z : List ℕ) (n m s : ℕ) → s ≡ slots_in z n → (get_or z (m * (3 + 8 * s)) 0 ≡ 1 → ⊥) → (get_or z (m * (3 + 8 * s)) 0 ≡ 0 → ⊥) → PresenceTold z n m → ⊥
flag_wrong z n m s e a b f = let h = subst (λ (x : ℕ). get_or z x 0 < 2) (sym (place_is z n m s e)) f.flag in omega (arith, a, b)

-- a machine lies inside, by the slots as they are computed
pub inside_by : (z : List ℕ) (n m s : ℕ) → Shaped z n → s ≡ slots_in z n → m < n → m * (3 + 8 * s) + (3 + 8 * s) ≤ length z
unfolding place_of
inside_by z n m s h e l = rw e (place_inside z n m h l)

-- a machine of n, by the slots as they are computed
pub is_zone : (z : List ℕ) (n m s : ℕ) → m < n → Shaped z n × (s ≡ slots_in z n) → IsZone z n m (record { index = m; place = m * (3 + 8 * s); slots = s })
is_zone z n m s l h = record { index = refl; machine = l; shaped = h.0; slots = h.1; place = place_is z n m s h.1; inside = place_inside z n m h.0 l }

-- a machine that the table does not list is not found
pub not_listed : (t z : List ℕ) (number : ℕ) (why : Unlisted) → MachineSays t number (Err why) → LocateSays t z number (Err (unlisted why))
not_listed t z number Unlisted.NoMachine h = (h.0, lowest_none _ _ (λ k l. ne_eqb _ _ (h.1 k l)))
not_listed t z number Unlisted.NoTable h = λ l. absurd (h l)

-- what is said of machine m of n is said of the machine that has the number
pub located : (t z : List ℕ) (number n m : ℕ) (r : Result Located NotLocated) → MachineSays t number (Ok m) → n ≡ (table_config t).machines → LookSays z n m r → LocateSays t z number r
located t z number n m r h f s =
    let e = sym (number_is (table_config t) number m h.1) in
    found r (let l = h.1.machine in omega arith) (subst (λ (x : ℕ). LookSays z (table_config t).machines x r) e (subst (λ (x : ℕ). LookSays z x m r) f s))
  where
    found : (r : Result Located NotLocated) → machine_of (table_config t) number < (table_config t).machines → LookSays z (table_config t).machines (machine_of (table_config t) number) r → LocateSays t z number r
    found (Ok (Located.Here zone)) l s = (h.0, s)
    found (Ok (Located.Away zone)) l s = (h.0, s)
    found (Err NotLocated.NoMachine) l s = absurd s
    found (Err NotLocated.Corrupt) l s = λ q. (l, s)

-- a machine of words that are in order is not called corrupt
pub not_corrupt : (t z : List ℕ) (number : ℕ) → LocateSays t z number (Err NotLocated.Corrupt) → length t ≡ 8325 → Flagged z (table_config t).machines → ⊥
not_corrupt t z number h l f = let c = h l in c.1 (record { shaped = f.shaped; flag = f.flags (machine_of (table_config t) number) c.0 })

-- so many machines' words have so many slots
pub slots_back : (z : List ℕ) (n slots : ℕ) → length z ≡ n * stride slots → 0 < n → slots_in z n ≡ slots
unfolding slots_in
slots_back z n slots e p =
    let q : max 1 n ≡ n = omega arith in
    rw (e, q) (let d = mul-div_cancel_left (stride slots) p in let r : (n * stride slots / n - 3) / 8 ≡ slots = omega arith in r)

pub shaped_by : (z : List ℕ) (n slots : ℕ) → length z ≡ n * stride slots → Shaped z n
shaped_by z zero slots e = record { exact = omega arith }
shaped_by z (suc n) slots e = record { exact = rw (slots_back z (suc n) slots e (omega arith)) e }
