-- `config_encode::put_region` meets its contract. Assumes nothing.
use native.Mathlib.Omega.{arith}
use Rattle.region_words.proofs.Laws.{number_small}
use Rattle.config_encode.proofs.Laws.{wrote_region}
use Rattle.config_encode.proofs.put_region.Goals as goal

pub overflow_cast-o : goal.overflow_cast-o
overflow_cast-o c = let e = c.number_of.ensures in let l = number_small c.args.r.kind in omega arith

pub shape_of-o : goal.shape_of-o
shape_of-o c = (wrote_region c.args.r c.args.p c.number_of.result c.requires c.put64.ensures c.put64-2.ensures c.put64-3.ensures c.number_of.ensures).only.long

pub returns : goal.returns
returns c = wrote_region c.args.r c.args.p c.number_of.result c.requires c.put64.ensures c.put64-2.ensures c.put64-3.ensures c.number_of.ensures
