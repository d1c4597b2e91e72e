-- `config_encode::behind` meets its contract. Assumes nothing.
use native.Mathlib.Omega.{arith}
use Rattle.config_view.specs.Table.{table_config}
use Rattle.config_encode.proofs.Laws.{start_next, words_start}
use Rattle.config_encode.proofs.behind.Goals as goal

pub overflow_add-result-2 : goal.overflow_add-result-2
overflow_add-result-2 c = let l = c.requires.m_bound.0 in let e = c.requires.m_bound.1 in omega (arith, c.count.ensures.1, words_start c.args.t.now c.args.m (omega arith))

pub returns : goal.returns
returns c = let e = c.requires.m_bound.1 in let f = c.count.ensures.0 in omega (arith, start_next (table_config c.args.t.now) c.args.m)
