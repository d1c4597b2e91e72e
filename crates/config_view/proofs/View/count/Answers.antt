-- `config_view::View::count` meets its contract. Assumes nothing.
use native.Mathlib.Omega.{arith}
use Rattle.config_view.proofs.Laws.{bytes_low, bytes_room}
use Rattle.config_view.proofs.View.count.Goals as goal

pub overflow_add-at : goal.overflow_add-at
overflow_add-at c = omega (arith, bytes_low (rw c.in-Bytes.is at c.requires.in_view) (rw c.in-Bytes.is at c.requires.m_bound))

pub u16_at-requires : goal.u16_at-requires
u16_at-requires c = omega (arith, bytes_room (rw c.in-Bytes.is at c.requires.in_view) (rw c.in-Bytes.is at c.requires.m_bound))
