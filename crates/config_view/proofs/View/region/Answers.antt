-- `config_view::View::region` meets its contract. Assumes nothing.
use native.Mathlib.Omega.{arith}
use Rattle.config_view.proofs.Laws.{view_count, bytes_low, bytes_region}
use Rattle.config_view.proofs.View.region.Goals as goal

pub overflow_add-at : goal.overflow_add-at
overflow_add-at c = omega (arith, bytes_low (rw c.in-Bytes.is at c.requires.in_view) (rw c.in-Bytes.is at c.requires.m_bound), view_count c.args.self.now c.requires.in_view c.args.m c.requires.m_bound.0)

pub region_at-requires : goal.region_at-requires
region_at-requires c = omega (arith, bytes_region (rw c.in-Bytes.is at c.requires.in_view) (rw c.in-Bytes.is at c.requires.m_bound) (rw c.in-Bytes.is at c.requires.i_bound))
