-- `config::check` meets its contract. Assumes nothing.
use mathlib.Core.Path.{sym}
use native.Mathlib.Omega.{arith}
use Rattle.std.proofs.lemmas.Result.{err_from_is_err_and}
use Rattle.config_bytes.specs.Fields.{Readable}
use Rattle.config_bytes.proofs.Laws.{whole_readable}
use Rattle.config.proofs.Laws.{right_bytes, wrong_bytes}
use Rattle.config.proofs.check.Goals as goal

pub judge-requires : goal.judge-requires
judge-requires c = whole_readable _ (sym c.in_default.ensures)

pub returns-in_err-judge : goal.returns-in_err-judge
returns-in_err-judge c =
    let f : Readable c.args.bytes.now = whole_readable _ (sym c.in_default.ensures) in
    let p = err_from_is_err_and c.from_residual.result c.from_residual.ensures.1 in rw (p.1, p.2) (wrong_bytes c.args.bytes.now _ f c.in_err-judge.ensures)

pub end-end-requires : goal.end-end-requires
end-end-requires c = whole_readable _ (sym c.in_default.ensures)

pub overflow_add-end : goal.overflow_add-end
overflow_add-end c =
    let f : Readable c.args.bytes.now = whole_readable _ (sym c.in_default.ensures) in
    let p = f.pool in let e = c.end-end.ensures in omega arith

pub returns-then-end-bytes : goal.returns-then-end-bytes
returns-then-end-bytes c =
    let f : Readable c.args.bytes.now = whole_readable _ (sym c.in_default.ensures) in
    record { readable = f; rules = c.in_ok-judge.ensures; end = (let e = c.end-end.ensures in omega arith); more = c.if-end-bytes.true }

pub machines-requires : goal.machines-requires
machines-requires c = whole_readable _ (sym c.in_default.ensures)

pub returns : goal.returns
returns c =
    let f : Readable c.args.bytes.now = whole_readable _ (sym c.in_default.ensures) in
    let e = c.end-end.ensures in rw c.machines.ensures.0 (right_bytes c.args.bytes.now f c.in_ok-judge.ensures (omega arith))
