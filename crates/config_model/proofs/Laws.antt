-- The rules one by one are `ConfigOk`, and `ConfigOk` asks nothing beyond the counts. Assumes nothing.
use mathlib.Core.Path.{◌≡◌, refl, sym}
use Prim.Native.Nat.{ℕ, ◌+◌, ◌*◌, ◌≤◌, ◌<◌}
use native.Mathlib.Decide.{dec_lt}
use native.Mathlib.Omega.{arith}
use Rattle.address.specs.declared.Kind.{Kind}
use Rattle.address.specs.declared.Region.{Region}
use Rattle.address.proofs.Theorems.{share_mutual}
use Rattle.config_model.specs.Config.{Config, Has, HostMeets, GuestMeets, MayShare, ConfigOk}
use Rattle.config_model.specs.Rules.{Rules}

-- a region is shared or not
shared? : (r : Region) → Dec (r.kind ≡ Kind.Shared)
shared? r = go r.kind
  where
    go : (k : Kind) → Dec (k ≡ Kind.Shared)
    go Kind.Ordinary = no (λ e. absurd (let z : ◌≡◌ {A = ℕ} 0 1 = cc in omega arith))
    go Kind.Device = no (λ e. absurd (let z : ◌≡◌ {A = ℕ} 0 1 = cc in omega arith))
    go Kind.Shared = yes refl

-- who may share is mutual
pub may_share_mutual : {m m' : ℕ} {a b : Region} → MayShare m m' a b → MayShare m' m b a
may_share_mutual s = record { shared = s.shared'; shared' = s.shared; two = λ e. s.two (sym e); host = sym s.host; pages = sym s.pages }

-- the rules together are ConfigOk
pub rules_ok : (c : Config) → ((m : ℕ) → m < c.machines → c.count m ≤ 32) → Rules c → ConfigOk c
rules_ok c few r =
    record {
      numbers = numbers;
      valid = λ m i h. r.valid m i h.machine h.region;
      pool_valid = r.pool_valid;
      hosts = λ m i m' i' h h' d s. hosts m i m' i' h h' d s (shared? (c.region m i)) (shared? (c.region m' i')) (dec_lt (32 * m + i) (32 * m' + i')) (dec_lt (32 * m' + i') (32 * m + i));
      guests = guests;
      pool_alone = λ m i h. r.off_pool m i h.machine h.region;
    }
  where
    numbers : (m m' : ℕ) → m < c.machines → m' < c.machines → c.number m ≡ c.number m' → m ≡ m'
    numbers m m' l l' e = go (dec_lt m m') (dec_lt m' m)
      where
        go : Dec (m < m') → Dec (m' < m) → m ≡ m'
        go (yes x) d = absurd (r.numbers m m' l l' x e)
        go (no x) (yes y) = absurd (r.numbers m' m l' l y (sym e))
        go (no x) (no y) = omega arith

    hosts : (m i m' i' : ℕ) → Has c m i → Has c m' i' → (m ≡ m' → i ≡ i' → ⊥) → HostMeets (c.region m i) (c.region m' i')
        → Dec ((c.region m i).kind ≡ Kind.Shared) → Dec ((c.region m' i').kind ≡ Kind.Shared) → Dec (32 * m + i < 32 * m' + i') → Dec (32 * m' + i' < 32 * m + i)
        → MayShare m m' (c.region m i) (c.region m' i')
    hosts m i m' i' h h' d s (no a) y u v = absurd (r.alone m i h.machine h.region m' i' h'.machine h'.region a d s)
    hosts m i m' i' h h' d s (yes a) (no b) u v =
        absurd (r.alone m' i' h'.machine h'.region m i h.machine h.region b (λ e f. d (sym e) (sym f)) (share_mutual s))
    hosts m i m' i' h h' d s (yes a) (yes b) (yes l) v = r.together m i h.machine h.region m' i' h'.machine h'.region a b l s
    hosts m i m' i' h h' d s (yes a) (yes b) (no g) (yes l) =
        may_share_mutual (r.together m' i' h'.machine h'.region m i h.machine h.region b a l (share_mutual s))
    hosts m i m' i' h h' d s (yes a) (yes b) (no g) (no g') =
        let x = few m h.machine in
        let x' = few m' h'.machine in
        let y = h.region in
        let y' = h'.region in absurd (d (omega arith) (omega arith))

    guests : (m i i' : ℕ) → Has c m i → Has c m i' → (i ≡ i' → ⊥) → GuestMeets (c.region m i) (c.region m i') → ⊥
    guests m i i' h h' d s = go (dec_lt i i') (dec_lt i' i)
      where
        go : Dec (i < i') → Dec (i' < i) → ⊥
        go (yes l) e = r.clear m i h.machine h.region m i' h'.machine h'.region refl l s
        go (no g) (yes l) = r.clear m i' h'.machine h'.region m i h.machine h.region refl l (share_mutual s)
        go (no g) (no g') = d (omega arith)

-- and ConfigOk gives each of them
pub ok_rules : (c : Config) → ((m : ℕ) → m < c.machines → c.count m ≤ 32) → ConfigOk c → Rules c
ok_rules c few k =
    record {
      numbers = λ m m' l l' x e. let z = k.numbers m m' l l' e in omega arith;
      valid = λ m i l h. k.valid m i (record { machine = l; region = h });
      pool_valid = k.pool_valid;
      alone = λ m i l h m' i' l' h' a d s. a (k.hosts m i m' i' (record { machine = l; region = h }) (record { machine = l'; region = h' }) d s).shared;
      together = λ m i l h m' i' l' h' a b e s. k.hosts m i m' i' (record { machine = l; region = h }) (record { machine = l'; region = h' }) (λ p q. omega arith) s;
      clear = λ m i l h m' i' l' h' e x s. clear m i m' i' l h h' e x s;
      off_pool = λ m i l h. k.pool_alone m i (record { machine = l; region = h });
    }
  where
    clear : (m i m' i' : ℕ) → m < c.machines → i < c.count m → i' < c.count m' → m ≡ m' → i < i' → GuestMeets (c.region m i) (c.region m' i') → ⊥
    clear m i m' i' l h h' e x s =
        k.guests m i i' (record { machine = l; region = h }) (record { machine = l; region = rw e h' }) (λ q. omega arith) (rw (sym e) at s)
