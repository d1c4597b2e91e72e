-- `bits16::multiples` meets its contract. Assumes nothing.
use native.Mathlib.Omega.{arith}
use Rattle.bits16.proofs.Doubling.{table, multiples_of}
use Rattle.bits16.proofs.multiples.Goals as goal

pub returns : goal.returns
unfolding table
returns c = multiples_of c.args.a (let p = c.requires in omega arith)
