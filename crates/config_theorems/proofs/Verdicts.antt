-- What follows from the contracts: the answer of `check` is determined, and bytes are accepted exactly if they mean a configuration that
-- is right. Assumes nothing.
use mathlib.Core.Path.{◌≡◌, sym, ap, ◌∙◌}
use mathlib.Core.List.{List}
use Prim.Native.Nat.{ℕ, suc}
use native.Mathlib.Omega.{arith}
use Rattle.config_model.specs.Config.{ConfigOk}
use Rattle.config_model.proofs.Laws.{ok_rules}
use Rattle.config_bytes.specs.Fields.{config_of, machines, Means}
use Rattle.config_rules.specs.declared.Reason.{Reason}
use Rattle.config.specs.Checking.{RefusedSays, CheckSays}
use Rattle.std.specs.Prelude.{Result, Ok, Err}
use Rattle.config_theorems.proofs.Stages.{To, staged, down_to, fails_not, reason_once}

-- every stage holds of bytes that mean a configuration that is right
all_stages : (s : List ℕ) → Means s → ConfigOk (config_of s) → To s 9
all_stages s m k = (m.readable, ok_rules (config_of s) (λ j l. (m.readable.parts j l).few) k, m.exact)

pub no_reason : (s : List ℕ) (r : Reason) → Means s → ConfigOk (config_of s) → RefusedSays s r → ⊥
no_reason s r m k x =
    let y = staged s r x in
    let l = y.last in
    fails_not s y.stage y.a y.b y.d y.e l y.fails (down_to s (suc y.stage) 9 (omega arith) (all_stages s m k))

-- bytes that are accepted mean a configuration that is right
pub accepted_right : (s : List ℕ) (n : ℕ) → CheckSays s (Ok n) → Means s × ConfigOk (config_of s)
accepted_right s n x = (x.means, x.ok)

-- bytes that mean a configuration that is right are accepted
pub right_accepted : (s : List ℕ) (v : Result ℕ Reason) → CheckSays s v → Means s → ConfigOk (config_of s) → v ≡ Ok (machines s)
right_accepted s (Ok n) x m k = ap Ok x.number
right_accepted s (Err r) x m k = absurd (no_reason s r m k x)

-- no two answers meet the contract
pub check_once : (s : List ℕ) (v v' : Result ℕ Reason) → CheckSays s v → CheckSays s v' → v ≡ v'
check_once s (Ok n) v' x y = sym (right_accepted s v' y x.means x.ok ∙ ap Ok (sym x.number))
check_once s (Err r) (Ok n) x y = absurd (no_reason s r y.means y.ok x)
check_once s (Err r) (Err r') x y = ap Err (reason_once (staged s r x) (staged s r' y))
