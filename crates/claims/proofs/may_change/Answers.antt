-- `claims::may_change` meets its contract. Assumes nothing.
use native.Mathlib.Omega.{arith}
use Rattle.claims.proofs.Returns.{first_owned}
use Rattle.claims.proofs.may_change.Goals as goal

pub returns-then-r-to : goal.returns-then-r-to
returns-then-r-to c = let f = c.in_ok-fitting.ensures in let m = f.matched.bytes in let x = c.unowned_until-r.ensures in first_owned _ _ _ _ _ _ (record { fits = f; some = omega arith; within = omega arith }) x (omega arith)

pub returns : goal.returns
returns c = let f = c.in_ok-fitting.ensures in let m = f.matched.bytes in record { range = record { fits = f; some = omega arith; within = omega arith }; unowned = λ k l h. c.unowned_until-r.ensures.before k l (omega arith) }
