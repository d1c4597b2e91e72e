-- Numbers and regions in bytes, and what stays when something else is written. Assumes nothing.
use mathlib.Core.Path.{◌≡◌, refl, sym, ap, ◌∙◌}
use mathlib.Core.List.{List}
use Prim.Native.Nat.{ℕ, zero, suc, ◌+◌, ◌-◌, ◌*◌, ◌≤◌, ◌<◌}
use native.Mathlib.Numerals.{add-one}
use native.Mathlib.Decide.{ℕ_discrete}
use native.Mathlib.Omega.{arith}
use lib.ListN.{length, set}
use lib.Seq.{get_or-set_same}
use Rattle.base.specs.Ranges.{Outside, Only}
use Rattle.address.specs.declared.Region.{Region}
use Rattle.region_words.specs.Words.{number_of}
use Rattle.config_model.specs.Config.{Config}
use Rattle.config_bytes.specs.Fields.{le16, le32, le64}
use Rattle.config_view.specs.Table.{table_config}
use Rattle.base.proofs.Ranges.{set_only, only_then, only_none}
use Rattle.config_encode.specs.Encoding.{Wrote, RegionBytes, WroteRegion, WroteRegions, MachineBytes, WroteMachine, WroteMachines, WroteAll, start_of, size_of}

-- ---- numbers that stay

module _ {o o' : List ℕ} {a b : ℕ} (only : Only o a b o') (at : ℕ) where
  pub le16_kept : ((k : ℕ) → at ≤ k → k < at + 2 → Outside a b k) → le16 o' at ≡ le16 o at
  unfolding le16
  le16_kept apart = let x = only.others at (apart at (omega arith) (omega arith)) in let y = only.others (at + 1) (apart (at + 1) (omega arith) (omega arith)) in omega arith

pub le32_kept : {o o' : List ℕ} {a b : ℕ} → Only o a b o' → (at : ℕ) → ((k : ℕ) → at ≤ k → k < at + 4 → Outside a b k) → le32 o' at ≡ le32 o at
unfolding le32
le32_kept only at apart =
    let x = le16_kept only at (λ k l h. apart k (omega arith) (omega arith)) in
    let y = le16_kept only (at + 2) (λ k l h. apart k (omega arith) (omega arith)) in omega arith

pub le64_kept : {o o' : List ℕ} {a b : ℕ} → Only o a b o' → (at : ℕ) → ((k : ℕ) → at ≤ k → k < at + 8 → Outside a b k) → le64 o' at ≡ le64 o at
unfolding le64
le64_kept only at apart =
    let x = le32_kept only at (λ k l h. apart k (omega arith) (omega arith)) in
    let y = le32_kept only (at + 4) (λ k l h. apart k (omega arith) (omega arith)) in omega arith

-- ---- numbers that are written

-- two bytes
pub wrote16 : (o : List ℕ) (at v x y : ℕ) → at + 2 ≤ length o → v ≡ x + 256 * y → Wrote le16 2 o at v (set (set o at x) (at + 1) y)
unfolding le16
wrote16 o at v x y l e =
    let one = set_only o at x in
    let two = set_only (set o at x) (at + 1) y in
    let g = two.others at (λ p q. omega arith) ∙ get_or-set_same o at x 0 (omega arith) in
    let h = get_or-set_same (set o at x) (at + 1) y 0 (let k = one.long in omega arith) in
    record { only = only_then at (at + 2) one two (omega arith) (omega arith) (omega arith) (omega arith); is = omega arith }

-- a number by its lower and its upper half
pub wrote32 : {o o' o'' : List ℕ} {at : ℕ} (v x y : ℕ) → Wrote le16 2 o at x o' → Wrote le16 2 o' (at + 2) y o'' → v ≡ x + 65536 * y → Wrote le32 4 o at v o''
unfolding le32
wrote32 {at = at} v x y w z e =
    let k = le16_kept z.only at (λ j l h p q. omega arith) in
    let a = w.is in
    let b = z.is in
    record { only = only_then at (at + 4) w.only z.only (omega arith) (omega arith) (omega arith) (omega arith); is = omega arith }

pub wrote64 : {o o' o'' : List ℕ} {at : ℕ} (v x y : ℕ) → Wrote le32 4 o at x o' → Wrote le32 4 o' (at + 4) y o'' → v ≡ x + 4294967296 * y → Wrote le64 8 o at v o''
unfolding le64
wrote64 {at = at} v x y w z e =
    let k = le32_kept z.only at (λ j l h p q. omega arith) in
    let a = w.is in
    let b = z.is in
    record { only = only_then at (at + 8) w.only z.only (omega arith) (omega arith) (omega arith) (omega arith); is = omega arith }

-- ---- regions

pub region_bytes_kept : {o o' : List ℕ} {a b p : ℕ} {r : Region} → Only o a b o' → ((k : ℕ) → p ≤ k → k < p + 25 → Outside a b k) → RegionBytes o p r → RegionBytes o' p r
region_bytes_kept {p = p} only apart x =
    record {
      guest = le64_kept only p (λ k l h. apart k (omega arith) (omega arith)) ∙ x.guest;
      host = le64_kept only (p + 8) (λ k l h. apart k (omega arith) (omega arith)) ∙ x.host;
      pages = le64_kept only (p + 16) (λ k l h. apart k (omega arith) (omega arith)) ∙ x.pages;
      kind = only.others (p + 24) (apart (p + 24) (omega arith) (omega arith)) ∙ x.kind;
    }

-- three numbers and a byte
pub wrote_region : (r : Region) (p k : ℕ) {o o1 o2 o3 : List ℕ} → p + 25 ≤ length o → Wrote le64 8 o p r.guest o1 → Wrote le64 8 o1 (p + 8) r.host o2 → Wrote le64 8 o2 (p + 16) r.pages o3
    → k ≡ number_of r.kind → WroteRegion o p r (set o3 (p + 24) k)
wrote_region r p k {o} {o1} {o2} {o3} l x y z e =
    let w = set_only o3 (p + 24) k in
    let long = z.only.long ∙ (y.only.long ∙ x.only.long) in
    record {
      only =
          only_then p (p + 25) (only_then p (p + 25) (only_then p (p + 25) x.only y.only (omega arith) (omega arith) (omega arith) (omega arith)) z.only (omega arith) (omega arith) (omega arith) (omega arith)) w (omega arith) (omega arith) (omega arith) (omega arith);
      is =
          record {
            guest =
                le64_kept w p (λ j a b c d. omega arith)
                ∙ (le64_kept z.only p (λ j a b c d. omega arith) ∙ (le64_kept y.only p (λ j a b c d. omega arith) ∙ x.is));
            host = le64_kept w (p + 8) (λ j a b c d. omega arith) ∙ (le64_kept z.only (p + 8) (λ j a b c d. omega arith) ∙ y.is);
            pages = le64_kept w (p + 16) (λ j a b c d. omega arith) ∙ z.is;
            kind = get_or-set_same o3 (p + 24) k 0 (omega arith) ∙ e;
          };
    }

-- ---- the regions of a machine, one behind the other

pub regions_wrote_none : (c : Config) (m p : ℕ) (o : List ℕ) → WroteRegions c m 0 p o o
regions_wrote_none c m p o = record { only = only_none o _ _; each = λ i l. absurd (omega arith) }

pub regions_wrote_more : {c : Config} {m i p : ℕ} {o o' o'' : List ℕ} {r : Region} → WroteRegions c m i p o o' → WroteRegion o' (p + (4 + 25 * i)) r o'' → r ≡ c.region m i → WroteRegions c m (i + 1) p o o''
regions_wrote_more {c} {m} {i} {p} {o} {o'} {o''} {r} g w e =
    record {
      only = only_then (p + 4) (p + (4 + 25 * (i + 1))) g.only w.only (omega arith) (omega arith) (omega arith) (omega arith);
      each = λ k h. go k h (ℕ_discrete k i);
    }
  where
    go : (k : ℕ) → k < i + 1 → Dec (k ≡ i) → RegionBytes o'' (p + (4 + 25 * k)) (c.region m k)
    go k h (yes q) = rw (q, ← e) w.is
    go k h (no q) = region_bytes_kept w.only (λ j x y u v. omega (arith, q)) (g.each k (omega (arith, q)))

-- ---- machines

-- where fields are written
pub start_first : (c : Config) → 2 ≡ start_of c 0
unfolding start_of
start_first c = refl

pub start_next : (c : Config) (m : ℕ) → start_of c (suc m) ≡ start_of c m + (4 + 25 * c.count m)
unfolding start_of
start_next c m = refl

start_by : (c : Config) (m d : ℕ) → start_of c m ≤ start_of c (m + d)
start_by c m zero = let e : m + 0 ≡ m = omega arith in rw e (omega arith)
start_by c m (suc d) = let e : m + suc d ≡ suc (m + d) = omega arith in let r = start_by c m d in rw e (omega (arith, start_next c (m + d)))

pub start_grows : (c : Config) (m k : ℕ) → m ≤ k → start_of c m ≤ start_of c k
start_grows c m k l = let e : k ≡ m + (k - m) = omega arith in rw e (start_by c m (k - m))

pub start_low : (c : Config) (m : ℕ) → 2 ≤ start_of c m
start_low c m = omega (arith, start_grows c 0 m (omega arith), start_first c)

-- with counts of at most 32 no place is large
pub start_small : (c : Config) → ((m : ℕ) → m < c.machines → c.count m ≤ 32) → (m : ℕ) → m ≤ c.machines → start_of c m ≤ 2 + 804 * m
start_small c few zero l = omega (arith, start_first c)
start_small c few (suc m) l = let r = start_small c few m (omega arith) in let f = few m (omega arith) in omega (arith, start_next c m)

-- a number, a count and the regions
pub wrote_machine : (c : Config) (m p n number : ℕ) {o o1 o2 o3 : List ℕ} → number ≡ c.number m → n ≡ c.count m
    → Wrote le16 2 o p number o1 → Wrote le16 2 o1 (p + 2) n o2 → WroteRegions c m n p o2 o3 → WroteMachine c m p o o3
wrote_machine c m p n number {o} {o1} {o2} {o3} e q x y z =
    record {
      only =
          only_then p (p + (4 + 25 * c.count m)) (only_then p (p + (4 + 25 * c.count m)) x.only y.only (omega arith) (omega arith) (omega arith) (omega arith)) z.only (omega arith) (omega arith) (omega arith) (omega arith);
      is =
          record {
            number = le16_kept z.only p (λ j a b u v. omega arith) ∙ (le16_kept y.only p (λ j a b u v. omega arith) ∙ (x.is ∙ e));
            count = le16_kept z.only (p + 2) (λ j a b u v. omega arith) ∙ (y.is ∙ q);
            regions = λ i h. z.each i (omega arith);
          };
    }

pub machine_bytes_kept : {c : Config} {m p : ℕ} {o o' : List ℕ} {a b : ℕ} → Only o a b o' → ((k : ℕ) → p ≤ k → k < p + (4 + 25 * c.count m) → Outside a b k) → MachineBytes c m p o → MachineBytes c m p o'
machine_bytes_kept {c} {m} {p} only apart x =
    record {
      number = le16_kept only p (λ k l h. apart k (omega arith) (omega arith)) ∙ x.number;
      count = le16_kept only (p + 2) (λ k l h. apart k (omega arith) (omega arith)) ∙ x.count;
      regions = λ i l. region_bytes_kept only (λ k u h. apart k (omega arith) (omega arith)) (x.regions i l);
    }

pub machines_wrote_none : (c : Config) (o : List ℕ) → WroteMachines c 0 o o
machines_wrote_none c o = record { only = only_none o _ _; each = λ m l. absurd (omega arith) }

pub machines_wrote_more : {c : Config} {m p : ℕ} {o o' o'' : List ℕ} → p ≡ start_of c m → WroteMachines c m o o' → WroteMachine c m p o' o'' → WroteMachines c (m + 1) o o''
machines_wrote_more {c} {m} {p} {o} {o'} {o''} e g w =
    let n : start_of c (m + 1) ≡ start_of c m + (4 + 25 * c.count m) = rw add-one (start_next c m) in
    let low = start_low c m in
    record {
      only = only_then 2 (start_of c (m + 1)) g.only w.only (omega arith) (omega arith) (omega arith) (omega arith);
      each = λ k h. go k h (ℕ_discrete k m);
    }
  where
    go : (k : ℕ) → k < m + 1 → Dec (k ≡ m) → MachineBytes c k (start_of c k) o''
    go k h (yes q) = rw (q, ← e) w.is
    go k h (no q) =
        machine_bytes_kept w.only
        (λ j x y u v. let s = start_grows c (suc k) m (omega (arith, q)) in let t = start_next c k in omega arith)
        (g.each k (omega (arith, q)))

-- all fields
pub wrote_all : (c : Config) (n p host pages : ℕ) {o o1 o2 o3 o4 : List ℕ} → n ≡ c.machines → p ≡ start_of c c.machines → host ≡ c.pool.host → pages ≡ c.pool.pages
    → Wrote le16 2 o 0 n o1 → WroteMachines c c.machines o1 o2 → Wrote le64 8 o2 p host o3 → Wrote le64 8 o3 (p + 8) pages o4 → WroteAll c o o4
wrote_all c n p host pages {o} {o1} {o2} {o3} {o4} e q h g x y z w =
    let low = start_low c c.machines in
    let last = only_then p (p + 16) z.only w.only (omega arith) (omega arith) (omega arith) (omega arith) in
    record {
      only =
          only_then 0 (size_of c) (only_then 0 (size_of c) x.only y.only (omega arith) (omega arith) (omega arith) (omega arith)) last (omega arith) (omega arith) (omega arith) (omega arith);
      is =
          record {
            machines = le16_kept last 0 (λ j a b u v. omega arith) ∙ (le16_kept y.only 0 (λ j a b u v. omega arith) ∙ (x.is ∙ e));
            each =
                λ m l. machine_bytes_kept last (λ j a b u v. let s = start_grows c (suc m) c.machines l in let t = start_next c m in omega arith) (y.each m l);
            host = ap (le64 o4) (sym q) ∙ (le64_kept w.only p (λ j a b u v. omega arith) ∙ (z.is ∙ h));
            pages = ap (λ (k : ℕ). le64 o4 (k + 8)) (sym q) ∙ (w.is ∙ g);
          };
    }

-- ---- the configuration of a table

-- every place is small
pub words_start : (t : List ℕ) (m : ℕ) → m ≤ (table_config t).machines → start_of (table_config t) m ≤ 51458
words_start t m l = let x = start_small (table_config t) (λ k h. omega arith) m l in omega arith
