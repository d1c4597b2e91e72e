-- `hv_lists::serve_list` meets its contract. Assumes nothing.
use mathlib.Core.Path.{refl}
use Rattle.std.proofs.lemmas.Result.{err_from_is_err_and}
use native.Mathlib.Omega.{arith}
use Rattle.request_bytes.specs.Requests.{nth_request}
use Rattle.hv_lists.proofs.Laws.{list_corrupt, list_nobody, list_empty, still_matched, still_backed, list_stopped, list_done}
use Rattle.hv_lists.proofs.serve_list.Goals as goal

pub returns-in-Err-Corrupt : goal.returns-in-Err-Corrupt
returns-in-Err-Corrupt c = record {
  says = list_corrupt _ _ (nth_request c.args.bytes.now c.args.p) c.args.n ((rw c.in-Err-Corrupt.field-0-is at c.in-Err-Corrupt.ensures) c.args.zones.now);
  told = record { long = refl; others = λ i d. refl };
}

pub returns-then-n-eq0 : goal.returns-then-n-eq0
returns-then-n-eq0 c = record {
  says = list_empty _ _ (nth_request c.args.bytes.now c.args.p) c.args.n _ _ c.if-n-eq0.true;
  told = record { long = refl; others = λ i d. refl };
}

pub returns-else-n-eq0 : goal.returns-else-n-eq0
returns-else-n-eq0 c = record {
  says = list_nobody _ _ (nth_request c.args.bytes.now c.args.p) c.args.n (omega arith) (rw c.in-Err-NoMachine.field-0-is at c.in-Err-NoMachine.ensures);
  told = record { long = refl; others = λ i d. refl };
}

pub returns-in_err-attempt_or_undo-in-Ok-clause-says : goal.returns-in_err-attempt_or_undo-in-Ok-clause-says
returns-in_err-attempt_or_undo-in-Ok-clause-says c =
    let e = err_from_is_err_and c.from_residual.result c.from_residual.ensures.1 in
    rw (e.1, e.2) (list_stopped _ _ _ _ c.args.words.now _ (nth_request c.args.bytes.now c.args.p) c.args.n _ _ _ c.attempt_or_undo.new.answers c.args.at _ c.in_err-attempt_or_undo-in-Ok.ensures.says)

pub clear_all-requires : goal.clear_all-requires
clear_all-requires c = let l = c.in-Ok.ensures in let e = c.in_ok-attempt_or_undo-in-Ok.ensures in record {
  matched = still_matched e.tree e.owners l.matched;
  backed = still_backed e.owners l.backed;
  client = l.small;
  members = c.requires.members;
}

pub returns-in_ok-attempt_or_undo-in-Ok : goal.returns-in_ok-attempt_or_undo-in-Ok
returns-in_ok-attempt_or_undo-in-Ok c = let e = c.in_ok-attempt_or_undo-in-Ok.ensures in record {
  says = list_done _ _ _ _ _ _ (nth_request c.args.bytes.now c.args.p) c.args.n _ _ _ _ _ _ _ c.in-Ok.ensures _ _ e.tree e.owners e.says c.clear_all.ensures;
  told = e.told;
}
