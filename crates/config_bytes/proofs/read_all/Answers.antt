-- `config_bytes::read_all` meets its contract. Assumes nothing.
use mathlib.Core.Path.{sym, ◌∙◌}
use Prim.Native.Nat.{◌<◌, ◌≤◌}
use native.Mathlib.Omega.{arith}
use borrow.Author.Tests.{lt-leb}
use Rattle.std.specs.Prelude.{Ok, Err}
use Rattle.config_bytes.specs.Fields.{machines}
use Rattle.config_bytes.specs.Reading.{read_of}
use Rattle.config_bytes.proofs.Laws.{handed, machines_found, machines_more, machines_first, machines_end, part_end, after_last}
use Rattle.config_bytes.proofs.read_all.Goals as goal

pub returns-in_err-read_field : goal.returns-in_err-read_field
unfolding read_of
returns-in_err-read_field c = handed c.from_residual.result c.from_residual.ensures.1 ∙ sym (c.in_err-read_field.ensures.read _)

pub returns-then-n-gt64 : goal.returns-then-n-gt64
unfolding read_of
returns-then-n-gt64 c = let s = c.args.s.now in let h : 64 < machines s = rw (sym c.u16_at-n.ensures.0) c.if-n-gt64.true in sym (c.in_ok-read_field.ensures.read _ ∙ simp (lt-leb (machines s) 64 h))

pub loop-m-init : goal.loop-m-init
loop-m-init c = machines_first c.args.s.now c.in_ok-read_field.ensures.whole (rw (sym c.u16_at-n.ensures.0) c.if-n-gt64.false)

pub returns-in_err-read_machine : goal.returns-in_err-read_machine
returns-in_err-read_machine c = let l : c.loop-m.m < machines c.args.s.now = rw (sym c.u16_at-n.ensures.0) c.loop-m-test.true in handed c.from_residual-in_err-read_machine.result c.from_residual-in_err-read_machine.ensures.1 ∙ sym (machines_found c.loop-m.invariant l (Err c.in_err-read_machine.field-0.0) c.in_err-read_machine.ensures)

pub u16_at-requires : goal.u16_at-requires
u16_at-requires c = let h = part_end c.loop-m.invariant (rw (sym c.u16_at-n.ensures.0) c.loop-m-test.true) c.in_ok-read_machine.ensures in omega arith

pub loop-m-preserved : goal.loop-m-preserved
loop-m-preserved c = rw c.u16_at.ensures.0 (machines_more c.loop-m.invariant (rw (sym c.u16_at-n.ensures.0) c.loop-m-test.true) c.in_ok-read_machine.ensures)

pub returns-in_err-read_field-2 : goal.returns-in_err-read_field-2
returns-in_err-read_field-2 c = let l : machines c.args.s.now ≤ c.loop-m.m = rw (sym c.u16_at-n.ensures.0) c.loop-m-test.false in handed c.from_residual-in_err-read_field-2.result c.from_residual-in_err-read_field-2.ensures.1 ∙ sym (machines_end c.loop-m.invariant l ∙ c.in_err-read_field-2.ensures.read _)

pub returns : goal.returns
returns c = let l : machines c.args.s.now ≤ c.loop-m.m = rw (sym c.u16_at-n.ensures.0) c.loop-m-test.false in sym (machines_end c.loop-m.invariant l ∙ (c.in_ok-read_field-2.ensures.read _ ∙ (c.read_field-3.ensures.read (Ok tt) ∙ after_last c.read_field-3.result)))
