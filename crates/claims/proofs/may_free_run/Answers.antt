-- `claims::may_free_run` meets its contract. Assumes nothing.
use mathlib.Core.Path.{◌∙◌}
use native.Mathlib.Omega.{arith}
use Rattle.claims.proofs.Returns.{other_taken}
use Rattle.claims.proofs.may_free_run.Goals as goal

pub returns : goal.returns
returns c = let f = c.in_ok-fitting.ensures in let m = f.matched.bytes in let x = c.owned_until-r.ensures in record { known = record { fits = f; client = c.if-c-ge64.false }; frame = _; place = c.in_ok-k.ensures; is = (record { some = omega arith; fits = omega arith; before = omega arith; stops = x }, other_taken _ _ _ _ _ _ (omega arith) (omega arith) x (λ e. c.if-read-eq1.false (c.read.ensures ∙ e))) }
