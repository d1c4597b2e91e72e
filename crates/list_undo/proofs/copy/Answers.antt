-- `list_undo::copy` meets its contract. Assumes nothing.
use mathlib.Core.Path.{◌∙◌}
use native.Mathlib.Omega.{arith}
use Rattle.list_undo.proofs.Copies.{copied_none, copied_more, copied_all}
use Rattle.list_undo.proofs.copy.Goals as goal

pub loop-i-init : goal.loop-i-init
loop-i-init g c = copied_none c.args.from.now c.args.to.now

pub loop-i-preserved : goal.loop-i-preserved
loop-i-preserved g c = copied_more c.args.from.now c.loop-i.to c.loop-i.i _ (let r = c.requires in let a = c.loop-i.auto.to in omega (arith, c.loop-i-test.true)) c.loop-i-test.true c.index-from-i.is c.loop-i.invariant

pub returns : goal.returns
returns g c = copied_all c.args.from.now _ c.loop-i.i (c.loop-i.auto.to ∙ c.requires) (omega (arith, c.loop-i-test.false)) c.loop-i.invariant
