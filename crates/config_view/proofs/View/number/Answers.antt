-- `config_view::View::number` meets its contract. Assumes nothing.
use native.Mathlib.Omega.{arith}
use Rattle.config_view.proofs.Laws.{bytes_room}
use Rattle.config_view.proofs.View.number.Goals as goal

pub u16_at-requires : goal.u16_at-requires
u16_at-requires c = omega (arith, bytes_room (rw c.in-Bytes.is at c.requires.in_view) (rw c.in-Bytes.is at c.requires.m_bound))
