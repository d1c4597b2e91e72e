-- `config_bytes::read_machine` meets its contract. Assumes nothing.
use mathlib.Core.Path.{sym, ◌∙◌}
use Prim.Native.Nat.{◌+◌, ◌≤◌, ◌<◌}
use borrow.Author.Tests.{le-leb, lt-leb}
use Rattle.config_bytes.specs.Fields.{le16}
use Rattle.config_bytes.specs.Reading.{machine_read}
use Rattle.config_bytes.proofs.Laws.{handed}
use Rattle.config_bytes.proofs.read_machine.Goals as goal

pub returns-in_err-read_field : goal.returns-in_err-read_field
unfolding machine_read
returns-in_err-read_field c = λ next. rw (handed c.from_residual.result c.from_residual.ensures.1) (c.in_err-read_field.ensures.read _)

pub returns-in_err-read_field-2 : goal.returns-in_err-read_field-2
unfolding machine_read
returns-in_err-read_field-2 c = λ next. rw (handed c.from_residual-in_err-read_field-2.result c.from_residual-in_err-read_field-2.ensures.1) (c.in_ok-read_field.ensures.read _ ∙ c.in_err-read_field-2.ensures.read _)

pub returns-then-k-gt32 : goal.returns-then-k-gt32
unfolding machine_read
returns-then-k-gt32 c = λ next. let h : 32 < le16 c.args.s.now (c.args.at + 2) = rw (sym c.u16_at-k.ensures.0) c.if-k-gt32.true in c.in_ok-read_field.ensures.read _ ∙ (c.in_ok-read_field-2.ensures.read _ ∙ simp (lt-leb (le16 c.args.s.now (c.args.at + 2)) 32 h))

pub returns : goal.returns
unfolding machine_read
returns c = λ next. let h : le16 c.args.s.now (c.args.at + 2) ≤ 32 = rw (sym c.u16_at-k.ensures.0) c.if-k-gt32.false in c.in_ok-read_field.ensures.read _ ∙ (c.in_ok-read_field-2.ensures.read _ ∙ simp (le-leb (le16 c.args.s.now (c.args.at + 2)) 32 h) (rw (sym c.u16_at-k.ensures.0) (c.read_regions.ensures next)))
