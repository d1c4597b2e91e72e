-- `claims::find_run` meets its contract. Assumes nothing.
use native.Mathlib.Omega.{arith}
use Rattle.std.proofs.lemmas.Result.{err_from_is_err_and}
use Rattle.claims.proofs.Offers.{run_offered, run_missed}
use Rattle.claims.proofs.find_run.Goals as goal

pub returns : goal.returns
returns c = run_offered _ _ _ _ _ _ _ (record { fits = c.in_ok-fitting.ensures; client = c.if-c-ge64.false }) (omega arith) c.in_ok-s.ensures c.if-not-placed.ensures

pub returns-in_err-s : goal.returns-in_err-s
returns-in_err-s c = let p = err_from_is_err_and c.from_residual-in_err-s.result c.from_residual-in_err-s.ensures.1 in rw (p.1, p.2) (run_missed _ _ _ _ _ _ (record { fits = c.in_ok-fitting.ensures; client = c.if-c-ge64.false }) (omega arith) _ c.in_err-s.ensures)
