-- The first region that a test refuses, where `Says r a` is that the test can answer a of a region r. Assumes nothing.
use Rattle.std.specs.Prelude.{ℕ, ◌<◌, Option, Some, None, Result, Ok, Err}
use Rattle.base.specs.Search.{Everywhere}
use Rattle.address.specs.declared.Region.{Region}
use Rattle.config_model.specs.Config.{Config}

-- the test accepts region i of machine m
abbrev pub Accepts : {E : Type 0} → (Region → Result (Unit {0}) E → Type 0) → Config → ℕ → ℕ → Type 0
Accepts Says c m i = Says (c.region m i) (Ok tt)

-- region i is the first of machine m that the test refuses, for the reason e
pub record RefusedIn {E : Type 0} (Says : Region → Result (Unit {0}) E → Type 0) (c : Config) (m i : ℕ) (e : E) : Type 0 where
  pub place : i < c.count m
  pub is : Says (c.region m i) (Err e)
  pub before : (k : ℕ) → k < i → Accepts Says c m k

abbrev pub RefusedInSays : {E : Type 0} → (Region → Result (Unit {0}) E → Type 0) → Config → ℕ → Option (ℕ × E) → Type 0
RefusedInSays Says c m None = (i : ℕ) → i < c.count m → Accepts Says c m i
RefusedInSays Says c m (Some (i, e)) = RefusedIn Says c m i e

-- region i of machine m is the first of all that the test refuses, for the reason e
pub record Refused {E : Type 0} (Says : Region → Result (Unit {0}) E → Type 0) (c : Config) (m i : ℕ) (e : E) : Type 0 where
  pub row : m < c.machines
  pub in_row : RefusedIn Says c m i e
  pub rows_before : Everywhere (Accepts Says c) c.count m

abbrev pub FirstRefused : {E : Type 0} → (Region → Result (Unit {0}) E → Type 0) → Config → Option (ℕ × ℕ × E) → Type 0
FirstRefused Says c None = Everywhere (Accepts Says c) c.count c.machines
FirstRefused Says c (Some (m, i, e)) = Refused Says c m i e

-- a record, so that a proof finds `Says` where the answer is not known
pub record RefusedSays {E : Type 0} (Says : Region → Result (Unit {0}) E → Type 0) (c : Config) (o : Option (ℕ × ℕ × E)) : Type 0 where
  pub first : FirstRefused Says c o
