-- `config_encode::put32` meets its contract. Assumes nothing.
use Prim.Native.Nat.{◌/◌, ◌%◌}
use native.Mathlib.Omega.{arith}
use Rattle.config_encode.proofs.Laws.{wrote32}
use Rattle.config_encode.proofs.put32.Goals as goal

pub returns : goal.returns
returns c = let v = c.args.v in wrote32 v (v % 65536) (v / 65536) c.put16.ensures c.put16-2.ensures (omega arith)
