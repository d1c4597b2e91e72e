-- What the functions' proofs cite. Assumes nothing.
use mathlib.Core.Path.{◌≡◌, sym, subst}
use Prim.Native.Nat.{ℕ}
use native.Mathlib.Decide.{ℕ_discrete}
use Rattle.std.specs.Prelude.{Option, Some, None, Result, Ok, Err}
use Rattle.base.specs.Search.{First}
use Rattle.address.specs.declared.Fault.{Fault}
use Rattle.address.specs.Regions.{Valid, ValiditySays}
use Rattle.address.proofs.Laws.{faulty}
use Rattle.address.specs.declared.Region.{Region}
use Rattle.config_model.specs.Config.{Config}
use Rattle.config_pairs.specs.Pairs.{FirstClash}
use Rattle.config_pairs.specs.declared.Rule.{Rule}
use Rattle.config_singles.specs.Singles.{Refused, RefusedSays}
use Rattle.config_rules.specs.Judging.{NotValidSays}

-- a test that refuses exactly the regions that break a rule finds the first of them
pub rule_broken : {E : Type 0} {Says : Region → Result (Unit {0}) E → Type 0} {c : Config} {m i : ℕ} {e : E} (Holds : Region → Type 0) → Refused Says c m i e
    → ((r : Region) → Says r (Ok tt) → Holds r) → (Says (c.region m i) (Err e) → Holds (c.region m i) → ⊥)
    → First (λ m i. Holds (c.region m i)) c.count c.machines m i
rule_broken Holds f accepts refuses =
    record {
      row = f.row;
      place = f.in_row.place;
      fails = refuses f.in_row.is;
      rows_before = λ a b l h. accepts _ (f.rows_before a b l h);
      before = λ k l. accepts _ (f.in_row.before k l);
    }

-- what a test found that says of a region what `ValiditySays` does
pub validity_found : {Says : Region → Result (Unit {0}) Fault → Type 0} (c : Config) (o : Option (ℕ × ℕ × Fault)) → RefusedSays Says c o
    → ((r : Region) (a : Result (Unit {0}) Fault) → Says r a → ValiditySays r.guest r.host r.pages a) → NotValidSays c o
validity_found c None x says = λ a b l h. says _ (Ok tt) (x.first a b l h)
validity_found c (Some (m, i, f)) x says =
    let s = says (c.region m i) (Err f) x.first.in_row.is in (rule_broken (λ r. Valid r.guest r.host r.pages) x.first (λ r p. says r (Ok tt) p) (λ p v. faulty f s v), s)

pub one_machine : (c : Config) (m i m' i' : ℕ) → FirstClash Rule.Together c m i m' i' → m ≡ m' → FirstClash Rule.Together c m i m i'
one_machine c m i m' i' x e = subst (λ (k : ℕ). FirstClash Rule.Together c m i k i') (sym e) x

-- two regions of one machine, where no two of different machines break the rule
pub guest_shared : (c : Config) (m i m' i' : ℕ) → FirstClash Rule.Clear c m i m' i' → FirstClash Rule.Clear c m i m i'
guest_shared c m i m' i' x = go (ℕ_discrete m m')
  where
    go : Dec (m ≡ m') → FirstClash Rule.Clear c m i m i'
    go (yes e) = subst (λ (k : ℕ). FirstClash Rule.Clear c m i k i') (sym e) x
    go (no n) = absurd (x.other.fails (λ e l s. n e))
