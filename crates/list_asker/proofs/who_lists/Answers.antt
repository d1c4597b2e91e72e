-- `list_asker::who_lists` meets its contract. Assumes nothing.
use mathlib.Core.Path.{ap}
use native.Mathlib.Omega.{arith}
use Rattle.std.proofs.lemmas.Result.{err_from_is_err_and}
use Rattle.base.proofs.Says.{not_refused}
use Rattle.zones.proofs.Laws.{number_is}
use Rattle.list_asker.proofs.Laws.{not_listed}
use Rattle.list_asker.proofs.who_lists.Goals as goal

pub returns-in_err-m-in-Ok : goal.returns-in_err-m-in-Ok
returns-in_err-m-in-Ok c =
    let e = err_from_is_err_and c.from_residual.result c.from_residual.ensures.1 in
    rw (e.1, e.2) (not_listed _ _ _ _ _ c.in_err-m-in-Ok.field-0.0 c.in_err-m-in-Ok.ensures)

pub returns-in_ok-pool-in-Ok : goal.returns-in_ok-pool-in-Ok
returns-in_ok-pool-in-Ok c =
    let h = c.in_ok-m-in-Ok.ensures in
    let e = number_is _ _ _ h.1 in
    let l = h.1.machine in
    record {
      client = omega arith;
      small = omega arith;
      first = ap (λ x. x.host) c.in_ok-pool-in-Ok.ensures.1;
      matched = c.in-Ok.ensures.matched;
      backed = not_refused c.is_backed.result c.if-not-is_backed.false-raw c.is_backed.ensures;
    }
