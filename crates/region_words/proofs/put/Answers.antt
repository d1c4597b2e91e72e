-- `region_words::put` meets its contract. Assumes nothing.
use native.Mathlib.Omega.{arith}
use lib.ListN.{length-set}
use Rattle.region_words.proofs.Laws.{put_four}
use Rattle.region_words.proofs.put.Goals as goal

pub bounds-t-at-2 : goal.bounds-t-at-2
bounds-t-at-2 c = simp length-set (omega arith)

pub bounds-t-at-3 : goal.bounds-t-at-3
bounds-t-at-3 c = simp length-set (omega arith)

pub bounds-t-at-4 : goal.bounds-t-at-4
bounds-t-at-4 c = simp length-set (omega arith)

pub shape_of-t : goal.shape_of-t
shape_of-t c = simp length-set

pub returns : goal.returns
returns c = put_four c.args.t.now c.args.at c.args.r c.number_of.result c.requires c.number_of.ensures
