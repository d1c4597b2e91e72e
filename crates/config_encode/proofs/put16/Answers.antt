-- `config_encode::put16` meets its contract. Assumes nothing.
use Prim.Native.Nat.{◌/◌, ◌%◌}
use native.Mathlib.Omega.{arith}
use lib.ListN.{length-set}
use Rattle.config_encode.proofs.Laws.{wrote16}
use Rattle.config_encode.proofs.put16.Goals as goal

pub bounds-o-at-2 : goal.bounds-o-at-2
bounds-o-at-2 c = simp length-set (omega arith)

pub returns : goal.returns
returns c = let v = c.args.v in wrote16 c.args.o.now c.args.at v (v % 256) (v / 256 % 256) c.requires.0 (let l = c.requires.1 in omega arith)
