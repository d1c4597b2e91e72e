-- What stays when something else is written. Assumes nothing.
use mathlib.Core.Path.{◌≡◌, ◌∙◌, subst}
use mathlib.Core.List.{List}
use Prim.Native.Nat.{ℕ, ◌+◌, ◌*◌, ◌≤◌, ◌<◌}
use native.Mathlib.Decide.{dec_lt, ℕ_discrete}
use native.Mathlib.Omega.{arith}
use borrow.Author.Tests.{lt-ltb, le-ltb}
use lib.ListN.{length, set}
use lib.Seq.{get_or-set_same}
use Rattle.base.proofs.Ranges.{only_none, set_only, only_then}
use Rattle.base.specs.Ranges.{Outside, Only}
use Rattle.address.specs.declared.Kind.{Kind}
use Rattle.address.specs.declared.Region.{Region}
use Rattle.region_words.specs.Words.{nothing, HasRegion, Put}
use Rattle.region_words.proofs.Laws.{put_only}
use Rattle.config_model.specs.Config.{Config}
use Rattle.config_view.specs.Table.{Table, number_in, count_in, region_in}
use Rattle.config_write.specs.Writing.{MachineIn, WroteRegions, WroteMachine, WroteMachines}

-- ---- what a table holds

pub number_in_lem : (c : Config) (m : ℕ) → m < c.machines → c.number m ≡ number_in c m
unfolding number_in
number_in_lem c m l = simp (lt-ltb m c.machines l)

pub number_out : (c : Config) (m : ℕ) → c.machines ≤ m → 0 ≡ number_in c m
unfolding number_in
number_out c m l = simp (le-ltb m c.machines l)

pub count_in_lem : (c : Config) (m : ℕ) → m < c.machines → c.count m ≡ count_in c m
unfolding count_in
count_in_lem c m l = simp (lt-ltb m c.machines l)

pub count_out : (c : Config) (m : ℕ) → c.machines ≤ m → 0 ≡ count_in c m
unfolding count_in
count_out c m l = simp (le-ltb m c.machines l)

pub region_in_lem : (c : Config) (m i : ℕ) → i < count_in c m → c.region m i ≡ region_in c m i
unfolding region_in
region_in_lem c m i l = simp (lt-ltb i (count_in c m) l)

pub region_out : (c : Config) (m i : ℕ) → count_in c m ≤ i → nothing ≡ region_in c m i
unfolding region_in
region_out c m i l = simp (le-ltb i (count_in c m) l)

-- a machine that has a region is one
pub counted : (c : Config) (m i : ℕ) → i < count_in c m → m < c.machines
counted c m i l = go (dec_lt m c.machines)
  where
    go : Dec (m < c.machines) → m < c.machines
    go (yes x) = x
    go (no x) = absurd (let e = count_out c m (omega (arith, x)) in omega arith)

-- ---- a range that stays

-- a region outside the range that was written
pub region_kept : {t t' : List ℕ} {a b at : ℕ} {r : Region} → Only t a b t' → ((k : ℕ) → at ≤ k → k < at + 4 → Outside a b k) → HasRegion t at r → HasRegion t' at r
region_kept {at = at} o apart h =
    record {
      guest = o.others at (apart at (omega arith) (omega arith)) ∙ h.guest;
      host = o.others (at + 1) (apart (at + 1) (omega arith) (omega arith)) ∙ h.host;
      pages = o.others (at + 2) (apart (at + 2) (omega arith) (omega arith)) ∙ h.pages;
      kind = o.others (at + 3) (apart (at + 3) (omega arith) (omega arith)) ∙ h.kind;
    }

-- a machine whose words were not written
pub machine_kept : {c : Config} {m : ℕ} {t t' : List ℕ} {a b : ℕ} → Only t a b t' → ((k : ℕ) → 130 * m ≤ k → k < 130 * m + 130 → Outside a b k) → MachineIn c m t → MachineIn c m t'
machine_kept {m = m} o apart x =
    record {
      number = o.others (130 * m) (apart (130 * m) (omega arith) (omega arith)) ∙ x.number;
      count = o.others (130 * m + 1) (apart (130 * m + 1) (omega arith) (omega arith)) ∙ x.count;
      regions = λ i l. region_kept o (λ k p q. apart k (omega arith) (omega arith)) (x.regions i l);
    }

-- ---- the regions of one machine, one behind the other

-- the first i regions of machine m are written, and nothing else
pub record Regions (c : Config) (m i : ℕ) (t t' : List ℕ) : Type 0 where
  pub within : i ≤ 32
  pub only : Only t (130 * m + 2) (130 * m + (2 + 4 * i)) t'
  pub each : (k : ℕ) → k < i → HasRegion t' (130 * m + (2 + 4 * k)) (region_in c m k)

pub regions_none : (c : Config) (m : ℕ) (t : List ℕ) → Regions c m 0 t t
regions_none c m t = record { within = omega arith; only = only_none t _ _; each = λ k l. absurd (omega arith) }

pub regions_more : {c : Config} {m i : ℕ} {t t' t'' : List ℕ} {r : Region} → Regions c m i t t' → i < 32 → Put t' (130 * m + (2 + 4 * i)) r t'' → r ≡ region_in c m i → Regions c m (i + 1) t t''
regions_more {c} {m} {i} {t} {t'} {t''} {r} g l p e =
    record {
      within = omega arith;
      only = only_then (130 * m + 2) (130 * m + (2 + 4 * (i + 1))) g.only (put_only p) (omega arith) (omega arith) (omega arith) (omega arith);
      each = λ k h. go k h (ℕ_discrete k i);
    }
  where
    go : (k : ℕ) → k < i + 1 → Dec (k ≡ i) → HasRegion t'' (130 * m + (2 + 4 * k)) (region_in c m k)
    go k h (yes q) = rw (q, ← e) p.has
    go k h (no q) = region_kept (put_only p) (λ j x y u w. omega (arith, q)) (g.each k (omega (arith, q)))

pub regions_all : {c : Config} {m i : ℕ} {t t' : List ℕ} → Regions c m i t t' → 32 ≤ i → WroteRegions c m t t'
regions_all {c} {m} {i} {t} {t'} g l =
    let w = g.within in
    record { only = only_then (130 * m + 2) (130 * m + 130) g.only (only_none t' (130 * m + 2) (130 * m + 130)) (omega arith) (omega arith) (omega arith) (omega arith); regions = λ k h. g.each k (omega arith) }

-- two stores and the regions
pub machine_wrote : (c : Config) (m number count : ℕ) (t t' : List ℕ) → m < 64 → length t ≡ 8325 → number ≡ number_in c m → count ≡ count_in c m
    → WroteRegions c m (set (set t (130 * m) number) (130 * m + 1) count) t' → WroteMachine c m t t'
machine_wrote c m number count t t' l e n k w =
    let one = set_only t (130 * m) number in
    let two = set_only (set t (130 * m) number) (130 * m + 1) count in
    let long = one.long in
    record {
      only =
          only_then (130 * m) (130 * m + 130) (only_then (130 * m) (130 * m + 130) one two (omega arith) (omega arith) (omega arith) (omega arith)) w.only (omega arith) (omega arith) (omega arith) (omega arith);
      is =
          record {
            number =
                w.only.others (130 * m) (λ x y. omega arith)
                ∙ (two.others (130 * m) (λ x y. omega arith) ∙ (get_or-set_same t (130 * m) number 0 (omega arith) ∙ n));
            count = w.only.others (130 * m + 1) (λ x y. omega arith) ∙ (get_or-set_same (set t (130 * m) number) (130 * m + 1) count 0 (omega arith) ∙ k);
            regions = w.regions;
          };
    }

-- one machine more
pub machines_more : {c : Config} {m : ℕ} {t t' : List ℕ} → WroteMachines c m t → WroteMachine c m t t' → WroteMachines c (m + 1) t'
machines_more {c} {m} {t} {t'} g w = record { long = w.only.long ∙ g.long; each = λ k h. go k h (ℕ_discrete k m) }
  where
    go : (k : ℕ) → k < m + 1 → Dec (k ≡ m) → MachineIn c k t'
    go k h (yes q) = rw q w.is
    go k h (no q) = machine_kept w.only (λ j x y u v. omega (arith, q)) (g.each k (omega (arith, q)))

-- the machines, their number, and the allocator's region are the table
pub table_wrote : (c : Config) (n : ℕ) (t t' : List ℕ) → n ≡ c.machines → WroteMachines c 64 t
    → Put (set t 8320 n) 8321 (record { guest = 0; host = c.pool.host; pages = c.pool.pages; kind = Kind.Ordinary }) t' → Table c t'
table_wrote c n t t' e w p =
    let one = set_only t 8320 n in
    let both = only_then 8320 8325 one (put_only p) (omega arith) (omega arith) (omega arith) (omega arith) in
    let each : (m : ℕ) → m < 64 → MachineIn c m t' = λ m l. machine_kept both (λ k x y u v. omega arith) (w.each m l) in
    let long = w.long in
    record {
      long = both.long ∙ long;
      machines = p.others 8320 (λ x y. omega arith) ∙ (get_or-set_same t 8320 n 0 (omega arith) ∙ e);
      pool = p.has;
      number = λ m l. (each m l).number;
      count = λ m l. (each m l).count;
      region = λ m i l h. (each m l).regions i h;
    }

pub pool_wrote : (c : Config) (n : ℕ) (q : Region) (t t' : List ℕ) → n ≡ c.machines → q ≡ c.pool → WroteMachines c 64 t
    → Put (set t 8320 n) 8321 (record { guest = 0; host = q.host; pages = q.pages; kind = Kind.Ordinary }) t' → Table c t'
pool_wrote c n q t t' e p w x =
    table_wrote c n t t' e w (subst (λ (r : Region). Put (set t 8320 n) 8321 (record { guest = 0; host = r.host; pages = r.pages; kind = Kind.Ordinary }) t') p x)
