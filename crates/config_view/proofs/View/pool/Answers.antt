-- `config_view::View::pool` meets its contract. Assumes nothing.
use native.Mathlib.Omega.{arith}
use Rattle.config_bytes.specs.Fields.{machines}
use Rattle.config_bytes.proofs.Laws.{offset_high}
use Rattle.config_view.proofs.View.pool.Goals as goal

pub overflow_add-at : goal.overflow_add-at
overflow_add-at c = let r = rw c.in-Bytes.is at c.requires in let e = rw c.in-Bytes.is at c.end-at.ensures in let f = r.few in omega (arith, offset_high c.in-Bytes.s.now r (machines c.in-Bytes.s.now) (omega arith))
