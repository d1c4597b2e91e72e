-- The configurations of the examples: two regions, of two machines with one each, or of one machine with both. Assumes nothing.
use mathlib.Core.Path.{◌≡◌, refl, sym}
use Prim.Native.Nat.{ℕ, zero, suc, ◌<◌}
use native.Mathlib.Omega.{arith}
use Rattle.base.specs.Search.{Everywhere}
use Rattle.address.specs.declared.Kind.{Kind}
use Rattle.address.specs.declared.Region.{Region}
use Rattle.address.specs.Regions.{Valid}
use Rattle.address.proofs.Theorems.{share_mutual}
use Rattle.config_model.specs.Config.{Config, HostMeets, MayShare, ConfigOk}

-- the first of two, or the second
abbrev pub fork : {A : Type 0} → A → A → ℕ → A
fork a b zero = a
fork a b (suc n) = b

-- the allocator's region
abbrev pub pool_at : ℕ → ℕ → Region
pool_at host pages = record { guest = 0; host = host; pages = pages; kind = Kind.Ordinary }

-- two machines with the numbers n and n' are given a and b
abbrev pub two : ℕ → ℕ → Region → Region → ℕ → ℕ → Config
two n n' a b host pages =
    record { machines = 2; number = fork n n'; count = λ m. 1; region = λ m i. fork a b m; pool = pool_at host pages }

-- one machine with the number n is given a and b
abbrev pub one : ℕ → Region → Region → ℕ → ℕ → Config
one n a b host pages = record { machines = 1; number = λ m. n; count = λ m. 2; region = λ m i. fork a b i; pool = pool_at host pages }

-- ---- what holds of both

-- below 1 there is 0, and below 2 there are 0 and 1
pub below_one : (P : ℕ → Type 0) → P 0 → (m : ℕ) → m < 1 → P m
below_one P a zero l = a
below_one P a (suc m) l = absurd (omega arith)

pub below_two : (P : ℕ → Type 0) → P 0 → P 1 → (m : ℕ) → m < 2 → P m
below_two P a b zero l = a
below_two P a b (suc zero) l = b
below_two P a b (suc (suc m)) l = absurd (omega arith)

-- at both places of two machines with one region each, and of one machine with two
pub in_two : (P : ℕ → ℕ → Type 0) → P 0 0 → P 1 0 → Everywhere P (λ m. 1) 2
in_two P a b m i l h = below_one (P m) (below_two (λ m. P m 0) a b m l) i h

pub in_one : (P : ℕ → ℕ → Type 0) → P 0 0 → P 0 1 → Everywhere P (λ m. 2) 1
in_one P a b m i l h = below_one (λ m. P m i) (below_two (P 0) a b i h) m l

-- ---- right ones

-- two machines are right where their numbers differ, and all three regions are valid and have no host page in common
pub two_ok : (n n' : ℕ) (a b : Region) (host pages : ℕ) → (n ≡ n' → ⊥) → Valid a.guest a.host a.pages → Valid b.guest b.host b.pages
    → Valid 0 host pages → (HostMeets a b → ⊥) → (HostMeets (pool_at host pages) a → ⊥) → (HostMeets (pool_at host pages) b → ⊥) → ConfigOk (two n n' a b host pages)
two_ok n n' a b host pages differ v w p apart off off' =
    record {
      numbers = numbers;
      valid = λ m i h. in_two (λ m i. Valid (fork a b m).guest (fork a b m).host (fork a b m).pages) v w m i h.machine h.region;
      pool_valid = p;
      hosts = λ m i m' i' h h' d s. hosts m i m' i' h.machine h.region h'.machine h'.region d s;
      guests = λ m i i' h h' d s. let x = h.region in let y = h'.region in d (omega arith);
      pool_alone = λ m i h. in_two (λ m i. HostMeets (pool_at host pages) (fork a b m) → ⊥) off off' m i h.machine h.region;
    }
  where
    numbers : (m m' : ℕ) → m < 2 → m' < 2 → fork n n' m ≡ fork n n' m' → m ≡ m'
    numbers zero zero l h e = refl
    numbers zero (suc zero) l h e = absurd (differ e)
    numbers (suc zero) zero l h e = absurd (differ (sym e))
    numbers (suc zero) (suc zero) l h e = refl
    numbers (suc (suc m)) m' l h e = absurd (omega arith)
    numbers zero (suc (suc m')) l h e = absurd (omega arith)
    numbers (suc zero) (suc (suc m')) l h e = absurd (omega arith)

    hosts : (m i m' i' : ℕ) → m < 2 → i < 1 → m' < 2 → i' < 1 → (m ≡ m' → i ≡ i' → ⊥) → HostMeets (fork a b m) (fork a b m') → MayShare m m' (fork a b m) (fork a b m')
    hosts zero i zero i' l h l' h' d s = absurd (d refl (omega arith))
    hosts zero i (suc zero) i' l h l' h' d s = absurd (apart s)
    hosts (suc zero) i zero i' l h l' h' d s = absurd (apart (share_mutual s))
    hosts (suc zero) i (suc zero) i' l h l' h' d s = absurd (d refl (omega arith))
    hosts (suc (suc m)) i m' i' l h l' h' d s = absurd (omega arith)
    hosts zero i (suc (suc m')) i' l h l' h' d s = absurd (omega arith)
    hosts (suc zero) i (suc (suc m')) i' l h l' h' d s = absurd (omega arith)
