-- There and back: a table that is encoded and loaded again, and configurations that are the same. Assumes nothing.
use mathlib.Core.Path.{◌≡◌, sym, ◌∙◌, subst}
use mathlib.Core.List.{List}
use Prim.Native.Nat.{ℕ, zero, suc, ◌+◌, ◌-◌, ◌*◌, ◌/◌, ◌%◌, ◌<◌}
use Rattle.std.specs.Prelude.{Result, Ok, Err}
use native.Mathlib.Decide.{dec_lt, ℕ_discrete}
use native.Mathlib.Omega.{arith}
use lib.ListN.{length, get_or, take}
use lib.Seq.{ext_get_or}
use Rattle.address.specs.declared.Region.{Region}
use Rattle.address.specs.Regions.{Valid}
use Rattle.region_words.specs.Words.{HasRegion}
use Rattle.config_model.specs.Config.{Config, Has, HostMeets, GuestMeets, MayShare, ConfigOk, Same}
use Rattle.config_view.specs.Table.{Table, number_in, count_in, region_in}
use Rattle.config_write.proofs.Laws.{number_in_lem, number_out, count_in_lem, count_out, region_in_lem, region_out, counted}
use Rattle.config.specs.Loading.{LoadSays}
use Rattle.config.specs.Encoding.{WasEncoded}
use Rattle.config.specs.declared.NotLoaded.{NotLoaded}
use Rattle.config_theorems.proofs.Verdicts.{no_reason}

-- ---- configurations that are the same

pub same_back : {c d : Config} → Same c d → Same d c
same_back {c} {d} s =
    record {
      machines = sym s.machines;
      number = λ m l. sym (s.number m (rw s.machines l));
      count = λ m l. sym (s.count m (rw s.machines l));
      region = λ m i l h. let k : m < c.machines = rw s.machines l in sym (s.region m i k (rw (s.count m k) h));
      pool_host = sym s.pool_host;
      pool_pages = sym s.pool_pages;
    }

pub same_then : {c d e : Config} → Same c d → Same d e → Same c e
same_then {c} {d} {e} s t =
    record {
      machines = s.machines ∙ t.machines;
      number = λ m l. s.number m l ∙ t.number m (rw (← s.machines) l);
      count = λ m l. s.count m l ∙ t.count m (rw (← s.machines) l);
      region = λ m i l h. s.region m i l h ∙ t.region m i (rw (← s.machines) l) (rw (← s.count m l) h);
      pool_host = s.pool_host ∙ t.pool_host;
      pool_pages = s.pool_pages ∙ t.pool_pages;
    }

module _ {c d : Config} (s : Same c d) where
  has_same : (m i : ℕ) → Has d m i → Has c m i
  has_same m i h = let k : m < c.machines = rw s.machines h.machine in record { machine = k; region = rw (s.count m k) h.region }

  region_same : (m i : ℕ) → Has d m i → c.region m i ≡ d.region m i
  region_same m i h = let k = has_same m i h in s.region m i k.machine k.region

  -- what is right stays right
  pub ok_same : ConfigOk c → ConfigOk d
  ok_same k =
      record {
        numbers =
            λ m m' l l' e.
            let a : m < c.machines = rw s.machines l in
            let b : m' < c.machines = rw s.machines l' in k.numbers m m' a b (s.number m a ∙ (e ∙ sym (s.number m' b)));
        valid = λ m i h. subst (λ (r : Region). Valid r.guest r.host r.pages) (region_same m i h) (k.valid m i (has_same m i h));
        pool_valid = rw (← s.pool_host, ← s.pool_pages) k.pool_valid;
        hosts = λ m i m' i' h h' n x. hosts m i m' i' h h' n (region_same m i h) (region_same m' i' h') x;
        guests = λ m i i' h h' n x. guests m i i' h h' n (region_same m i h) (region_same m i' h') x;
        pool_alone = λ m i h x. pool_alone m i h (region_same m i h) x;
      }
    where
      hosts : (m i m' i' : ℕ) → Has d m i → Has d m' i' → (m ≡ m' → i ≡ i' → ⊥) → c.region m i ≡ d.region m i → c.region m' i' ≡ d.region m' i'
          → HostMeets (d.region m i) (d.region m' i') → MayShare m m' (d.region m i) (d.region m' i')
      hosts m i m' i' h h' n p q x =
          let y : HostMeets (c.region m i) (c.region m' i') = rw (p, q) x in
          let z = k.hosts m i m' i' (has_same m i h) (has_same m' i' h') n y in
          subst (λ (r : Region). MayShare m m' r (d.region m' i')) p (subst (λ (r : Region). MayShare m m' (c.region m i) r) q z)

      guests : (m i i' : ℕ) → Has d m i → Has d m i' → (i ≡ i' → ⊥) → c.region m i ≡ d.region m i → c.region m i' ≡ d.region m i' → GuestMeets (d.region m i) (d.region m i') → ⊥
      guests m i i' h h' n p q x =
          let y : GuestMeets (c.region m i) (c.region m i') = rw (p, q) x in k.guests m i i' (has_same m i h) (has_same m i' h') n y

      pool_alone : (m i : ℕ) → Has d m i → c.region m i ≡ d.region m i → HostMeets d.pool (d.region m i) → ⊥
      pool_alone m i h p x =
          let y : HostMeets c.pool (c.region m i) = rw (p, s.pool_host, s.pool_pages) x in k.pool_alone m i (has_same m i h) y

  -- ---- their tables

  number_same : (m : ℕ) → number_in c m ≡ number_in d m
  number_same m = go (dec_lt m c.machines)
    where
      go : Dec (m < c.machines) → number_in c m ≡ number_in d m
      go (yes l) = sym (number_in_lem c m l) ∙ (s.number m l ∙ number_in_lem d m (rw (← s.machines) l))
      go (no n) = sym (number_out c m (omega (arith, n))) ∙ number_out d m (let e = s.machines in omega (arith, n))

  count_same : (m : ℕ) → count_in c m ≡ count_in d m
  count_same m = go (dec_lt m c.machines)
    where
      go : Dec (m < c.machines) → count_in c m ≡ count_in d m
      go (yes l) = sym (count_in_lem c m l) ∙ (s.count m l ∙ count_in_lem d m (rw (← s.machines) l))
      go (no n) = sym (count_out c m (omega (arith, n))) ∙ count_out d m (let e = s.machines in omega (arith, n))

  slot_same : (m i : ℕ) → region_in c m i ≡ region_in d m i
  slot_same m i = go (dec_lt i (count_in c m))
    where
      go : Dec (i < count_in c m) → region_in c m i ≡ region_in d m i
      go (yes l) =
          let k = counted c m i l in
          sym (region_in_lem c m i l) ∙ (s.region m i k (rw (count_in_lem c m k) l) ∙ region_in_lem d m i (rw (← count_same m) l))
      go (no n) = sym (region_out c m i (omega (arith, n))) ∙ region_out d m i (let e = count_same m in omega (arith, n))

  pub table_same : (t : List ℕ) → Table c t → Table d t
  table_same t x =
      record {
        long = x.long;
        machines = x.machines ∙ s.machines;
        pool = rw (← s.pool_host, ← s.pool_pages) x.pool;
        number = λ m l. x.number m l ∙ number_same m;
        count = λ m l. x.count m l ∙ count_same m;
        region = λ m i l h. subst (HasRegion t (130 * m + (2 + 4 * i))) (slot_same m i) (x.region m i l h);
      }

-- ---- a configuration has one table

-- the words of two tables of one configuration
module _ {c : Config} {t t' : List ℕ} (x : Table c t) (y : Table c t') where
  word_of_region : (at j : ℕ) (r : Region) → j < 4 → HasRegion t at r → HasRegion t' at r → get_or t (at + j) 0 ≡ get_or t' (at + j) 0
  word_of_region at zero r l h g = let e : at + 0 ≡ at = omega arith in rw e (h.guest ∙ sym g.guest)
  word_of_region at (suc zero) r l h g = h.host ∙ sym g.host
  word_of_region at (suc (suc zero)) r l h g = h.pages ∙ sym g.pages
  word_of_region at (suc (suc (suc zero))) r l h g = h.kind ∙ sym g.kind
  word_of_region at (suc (suc (suc (suc j)))) r l h g = absurd (omega arith)

  -- word q of machine m
  word_of_machine : (m q : ℕ) → m < 64 → q < 130 → get_or t (130 * m + q) 0 ≡ get_or t' (130 * m + q) 0
  word_of_machine m zero l h = let e : 130 * m + 0 ≡ 130 * m = omega arith in rw e (x.number m l ∙ sym (y.number m l))
  word_of_machine m (suc zero) l h = x.count m l ∙ sym (y.count m l)
  word_of_machine m (suc (suc q)) l h =
      let i : q / 4 < 32 = omega arith in
      let e : 130 * m + suc (suc q) ≡ 130 * m + (2 + 4 * (q / 4)) + q % 4 = omega arith in
      rw e (word_of_region (130 * m + (2 + 4 * (q / 4))) (q % 4) (region_in c m (q / 4)) (omega arith) (x.region m (q / 4) l i) (y.region m (q / 4) l i))

  -- word k
  word : (k : ℕ) → k < 8325 → get_or t k 0 ≡ get_or t' k 0
  word k l = go (dec_lt k 8320) (ℕ_discrete k 8320)
    where
      go : Dec (k < 8320) → Dec (k ≡ 8320) → get_or t k 0 ≡ get_or t' k 0
      go (yes h) b = let e : k ≡ 130 * (k / 130) + k % 130 = omega arith in rw e (word_of_machine (k / 130) (k % 130) (omega arith) (omega arith))
      go (no n) (yes q) = rw q (x.machines ∙ sym y.machines)
      go (no n) (no q) = let e : k ≡ 8321 + (k - 8321) = omega (arith, n, q) in rw e (word_of_region 8321 (k - 8321) _ (omega (arith, n, q)) x.pool y.pool)

  pub table_once : t ≡ t'
  table_once = ext_get_or 0 t t' (x.long ∙ sym y.long) (λ k l. word k (let e = x.long in omega arith))

-- ---- a table that is encoded and loaded again

-- whatever `load` answers of the bytes that `encode` wrote, it is the table again
pub load_after_encode : (t o : List ℕ) (n : ℕ) (o' u u' : List ℕ) (r : Result ℕ NotLoaded) → WasEncoded t o n o' → length u ≡ 8325 → LoadSays (take n o') u u' r → u' ≡ t
load_after_encode t o n o' u u' (Ok k) x l y = table_once (table_same x.same u' y.is) x.writable.table
load_after_encode t o n o' u u' (Err (NotLoaded.Refused r)) x l y = absurd (no_reason (take n o') r x.means (ok_same (same_back x.same) x.writable.ok) y.2)
load_after_encode t o n o' u u' (Err NotLoaded.NoTable) x l y = absurd (y.1 l)
