-- `config_encode::size_of` meets its contract. Assumes nothing.
use native.Mathlib.Omega.{arith}
use Rattle.config_encode.proofs.Laws.{start_first, words_start}
use Rattle.config_encode.proofs.size_of.Goals as goal

pub loop-m-init : goal.loop-m-init
loop-m-init c = start_first _

pub overflow_add-result : goal.overflow_add-result
overflow_add-result c = let f = c.machines-n.ensures.0 in let e = c.loop-m.invariant in omega (arith, words_start c.args.t.now c.loop-m.m (omega arith))
