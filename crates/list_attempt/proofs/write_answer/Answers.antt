-- `list_attempt::write_answer` meets its contract. Assumes nothing.
use native.Mathlib.Omega.{arith}
use Prim.Native.Nat.{◌+◌, ◌*◌}
use lib.ListN.{length-set}
use Rattle.list_attempt.proofs.Laws.{wrote}
use Rattle.list_attempt.proofs.write_answer.Goals as goal

pub bounds-answers-at-2 : goal.bounds-answers-at-2
bounds-answers-at-2 c = let l = length-set c.args.answers.now (c.args.at + 2 * c.args.k) c.code_of.result in omega arith

pub returns : goal.returns
returns c = wrote c.args.answers.now c.args.at c.args.k c.code_of.result c.address_in.result c.args.a c.requires c.code_of.ensures c.address_in.ensures
