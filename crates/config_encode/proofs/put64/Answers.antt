-- `config_encode::put64` meets its contract. Assumes nothing.
use Prim.Native.Nat.{◌/◌, ◌%◌}
use native.Mathlib.Omega.{arith}
use Rattle.config_encode.proofs.Laws.{wrote64}
use Rattle.config_encode.proofs.put64.Goals as goal

pub returns : goal.returns
returns c = let v = c.args.v in wrote64 v (v % 4294967296) (v / 4294967296) c.put32.ensures c.put32-2.ensures (omega arith)
