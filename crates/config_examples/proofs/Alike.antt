-- What is wrong with a configuration is wrong with every one that is the same as far as its counts reach. Assumes nothing.
use mathlib.Core.Path.{◌≡◌, sym, ◌∙◌, subst}
use Prim.Native.Nat.{ℕ, ◌<◌}
use native.Mathlib.Omega.{arith}
use Rattle.base.specs.Search.{Everywhere, First}
use Rattle.address.specs.declared.Region.{Region}
use Rattle.address.specs.Regions.{Valid, ValiditySays}
use Rattle.std.specs.Prelude.{Err}
use Rattle.config_model.specs.Config.{Config, HostMeets, Same}
use Rattle.config_model.specs.Rules.{Differ, IsValid, OffPool, Alone, Together, Clear, WithAll, AllPairs}
use Rattle.config_pairs.specs.Pairs.{Holds, Between, FirstClash}
use Rattle.config_pairs.specs.declared.Rule.{Rule}
use Rattle.config_rules.specs.Judging.{ToNumbers, ToValid, ToPoolValid, ToAlone, ToTogether, ToClear, WrongSays}
use Rattle.config_rules.specs.declared.Reason.{Reason}
use Rattle.config_theorems.proofs.Round.{same_back}

-- ---- places in two orders that are the same

module _ (P Q : ℕ → ℕ → Type 0) {w w' : ℕ → ℕ} {n n' : ℕ} (e : n ≡ n') (widths : (a : ℕ) → a < n → w a ≡ w' a)
    (to : (a b : ℕ) → a < n → b < w a → P a b → Q a b) where
  everywhere_too : Everywhere P w n → Everywhere Q w' n'
  everywhere_too all a b l h =
      let k : a < n = rw e l in
      let j : b < w a = rw (widths a k) h in to a b k j (all a b k j)

  first_too : {a b : ℕ} → ((a b : ℕ) → a < n → b < w a → Q a b → P a b) → First P w n a b → First Q w' n' a b
  first_too {a} {b} back f =
      let l = f.row in
      let p = f.place in
      record {
        row = rw (← e) l;
        place = rw (← widths a l) p;
        fails = λ q. f.fails (back a b l p q);
        rows_before = λ x y u v. let k : x < n = omega arith in let j : y < w x = rw (widths x k) v in to x y k j (f.rows_before x y u j);
        before = λ k u. to a k l (omega arith) (f.before k u);
      }

-- ---- each rule

module _ {c d : Config} (s : Same c d) where
  differ_too : (m m' : ℕ) → m < c.machines → m' < c.machines → Differ c m m' → Differ d m m'
  differ_too m m' l l' x h e = x h (s.number m l ∙ (e ∙ sym (s.number m' l')))

  valid_too : (m i : ℕ) → m < c.machines → i < c.count m → IsValid c m i → IsValid d m i
  valid_too m i l h x = subst (λ (r : Region). Valid r.guest r.host r.pages) (s.region m i l h) x

  off_too : (m i : ℕ) → m < c.machines → i < c.count m → OffPool c m i → OffPool d m i
  off_too m i l h x = go (s.region m i l h)
    where
      go : c.region m i ≡ d.region m i → OffPool d m i
      go p y = let z : HostMeets c.pool (c.region m i) = rw (p, s.pool_host, s.pool_pages) y in x z

  between_too : (R : ℕ → ℕ → Region → ℕ → ℕ → Region → Type 0) (m i : ℕ) → m < c.machines → i < c.count m → (m' i' : ℕ) → m' < c.machines → i' < c.count m'
      → R m i (c.region m i) m' i' (c.region m' i') → R m i (d.region m i) m' i' (d.region m' i')
  between_too R m i l h m' i' l' h' x =
      subst (λ (r : Region). R m i r m' i' (d.region m' i')) (s.region m i l h)
      (subst (λ (r : Region). R m i (c.region m i) m' i' r) (s.region m' i' l' h') x)

  with_all_too : (R : ℕ → ℕ → Region → ℕ → ℕ → Region → Type 0) (m i : ℕ) → m < c.machines → i < c.count m → WithAll R c m i → WithAll R d m i
  with_all_too R m i l h =
      everywhere_too (λ m' i'. R m i (c.region m i) m' i' (c.region m' i')) (λ m' i'. R m i (d.region m i) m' i' (d.region m' i')) s.machines s.count
      (between_too R m i l h)

  -- a place of the one is a place of the other
  there : {P Q : ℕ → ℕ → Type 0} → ((m i : ℕ) → m < d.machines → i < d.count m → Q m i → P m i) → (m i : ℕ) → m < c.machines → i < c.count m → Q m i → P m i
  there f m i l h = f m i (rw (← s.machines) l) (rw (← s.count m l) h)

-- ---- the rules up to each, and the first place at which one fails

module _ {c d : Config} (s : Same c d) where
  numbers_too : ToNumbers c → ToNumbers d
  numbers_too = everywhere_too (Differ c) (Differ d) s.machines (λ a l. s.machines) (differ_too s)

  to_valid : ToValid c → ToValid d
  to_valid x = (numbers_too x.0, everywhere_too (IsValid c) (IsValid d) s.machines s.count (valid_too s) x.1)

  to_pool_valid : ToPoolValid c → ToPoolValid d
  to_pool_valid x = (to_valid x.0, rw (← s.pool_host, ← s.pool_pages) x.1)

  pairs_too : (R : ℕ → ℕ → Region → ℕ → ℕ → Region → Type 0) → AllPairs R c → AllPairs R d
  pairs_too R = everywhere_too (WithAll R c) (WithAll R d) s.machines s.count (with_all_too s R)

  to_alone : ToAlone c → ToAlone d
  to_alone x = (to_pool_valid x.0, pairs_too Alone x.1)

  to_together : ToTogether c → ToTogether d
  to_together x = (to_alone x.0, pairs_too Together x.1)

  to_clear_lem : ToClear c → ToClear d
  to_clear_lem x = (to_together x.0, pairs_too Clear x.1)

  clash_too : (rule : Rule) (m i m' i' : ℕ) → FirstClash rule c m i m' i' → FirstClash rule d m i m' i'
  clash_too rule m i m' i' x =
      let l = x.first.row in
      let h = x.first.place in
      let t = same_back s in
      record {
        first =
            first_too (WithAll (Holds rule) c) (WithAll (Holds rule) d) s.machines s.count (with_all_too s (Holds rule))
            (there s (with_all_too t (Holds rule))) x.first;
        other =
            first_too (Between rule c m i) (Between rule d m i) s.machines s.count (between_too s (Holds rule) m i l h)
            (there s (between_too t (Holds rule) m i (rw (← s.machines) l) (rw (← s.count m l) h))) x.other;
      }

  pub wrong_too : (r : Reason) → WrongSays c r → WrongSays d r
  wrong_too (Reason.TooShort at) x = x
  wrong_too Reason.TooManyMachines x = x
  wrong_too (Reason.TooManyRegions m) x = x
  wrong_too (Reason.UnknownKind m i) x = x
  wrong_too (Reason.SameNumber m m') x =
      first_too (Differ c) (Differ d) s.machines (λ a l. s.machines) (differ_too s)
      (λ a b l h. differ_too (same_back s) a b (rw (← s.machines) l) (rw (← s.machines) h)) x
  wrong_too (Reason.NotValid m i f) x =
      let w = x.1 in (
        numbers_too x.0,
        first_too (IsValid c) (IsValid d) s.machines s.count (valid_too s) (there s (valid_too (same_back s))) w,
        subst (λ (r : Region). ValiditySays r.guest r.host r.pages (Err f)) (s.region m i w.row w.place) x.2,
      )
  wrong_too (Reason.PoolNotValid f) x =
      (to_valid x.0, subst (λ (h : ℕ). ValiditySays 0 h d.pool.pages (Err f)) s.pool_host (subst (λ (p : ℕ). ValiditySays 0 c.pool.host p (Err f)) s.pool_pages x.1))
  wrong_too (Reason.HostShared m i m' i') x = (to_pool_valid x.0, clash_too Rule.Alone m i m' i' x.1)
  wrong_too (Reason.NotCoinciding m i m' i') x = (to_alone x.0, clash_too Rule.Together m i m' i' x.1, x.2)
  wrong_too (Reason.OneMachine m i i') x = (to_alone x.0, clash_too Rule.Together m i m i' x.1)
  wrong_too (Reason.GuestShared m i i') x = (to_together x.0, clash_too Rule.Clear m i m i' x.1)
  wrong_too (Reason.PoolShared m i) x =
      (to_clear_lem x.0, first_too (OffPool c) (OffPool d) s.machines s.count (off_too s) (there s (off_too (same_back s))) x.1)
  wrong_too (Reason.LeftOver at) x = x
