-- `config_bytes::read_region` meets its contract. Assumes nothing.
use Prim.Native.Nat.{◌+◌}
use mathlib.Core.Path.{◌∙◌}
use borrow.Author.Tests.{le-leb, lt-leb}
use lib.ListN.{get_or}
use Rattle.config_bytes.specs.Reading.{region_read}
use Rattle.config_bytes.proofs.Laws.{handed}
use Rattle.config_bytes.proofs.read_region.Goals as goal

pub returns-in_err-read_field : goal.returns-in_err-read_field
unfolding region_read
returns-in_err-read_field c = λ next. rw (handed c.from_residual.result c.from_residual.ensures.1) (c.in_err-read_field.ensures.read _)

pub returns-in_err-read_field-2 : goal.returns-in_err-read_field-2
unfolding region_read
returns-in_err-read_field-2 c = λ next. rw (handed c.from_residual-in_err-read_field-2.result c.from_residual-in_err-read_field-2.ensures.1) (c.in_ok-read_field.ensures.read _ ∙ c.in_err-read_field-2.ensures.read _)

pub returns-in_err-read_field-3 : goal.returns-in_err-read_field-3
unfolding region_read
returns-in_err-read_field-3 c = λ next. rw (handed c.from_residual-in_err-read_field-3.result c.from_residual-in_err-read_field-3.ensures.1) (c.in_ok-read_field.ensures.read _ ∙ (c.in_ok-read_field-2.ensures.read _ ∙ c.in_err-read_field-3.ensures.read _))

pub returns-in_err-read_field-4 : goal.returns-in_err-read_field-4
unfolding region_read
returns-in_err-read_field-4 c = λ next. rw (handed c.from_residual-in_err-read_field-4.result c.from_residual-in_err-read_field-4.ensures.1) (c.in_ok-read_field.ensures.read _ ∙ (c.in_ok-read_field-2.ensures.read _ ∙ (c.in_ok-read_field-3.ensures.read _ ∙ c.in_err-read_field-4.ensures.read _)))

pub returns-then-s-at-gt2 : goal.returns-then-s-at-gt2
unfolding region_read
returns-then-s-at-gt2 c = λ next. c.in_ok-read_field.ensures.read _ ∙ (c.in_ok-read_field-2.ensures.read _ ∙ (c.in_ok-read_field-3.ensures.read _ ∙ (c.in_ok-read_field-4.ensures.read _ ∙ simp (lt-leb (get_or c.args.s.now (c.args.at + 24) 0) 2 c.if-s-at-gt2.true))))

pub returns : goal.returns
unfolding region_read
returns c = λ next. c.in_ok-read_field.ensures.read _ ∙ (c.in_ok-read_field-2.ensures.read _ ∙ (c.in_ok-read_field-3.ensures.read _ ∙ (c.in_ok-read_field-4.ensures.read _ ∙ simp (le-leb (get_or c.args.s.now (c.args.at + 24) 0) 2 c.if-s-at-gt2.false))))
