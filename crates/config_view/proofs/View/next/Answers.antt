-- `config_view::View::next` meets its contract. Assumes nothing.
use mathlib.Core.Path.{ap, ◌∙◌}
use Prim.Native.Nat.{ℕ, ◌+◌, ◌*◌}
use native.Mathlib.Omega.{arith}
use Rattle.config_bytes.proofs.Laws.{next_offset}
use Rattle.config_view.proofs.Laws.{bytes_low, bytes_room}
use Rattle.config_view.proofs.View.next.Goals as goal

pub overflow_add-at : goal.overflow_add-at
overflow_add-at c = omega (arith, bytes_low (rw c.in-Bytes.is at c.requires.in_view) (rw c.in-Bytes.is at c.requires.m_bound))

pub u16_at-requires : goal.u16_at-requires
u16_at-requires c = omega (arith, bytes_room (rw c.in-Bytes.is at c.requires.in_view) (rw c.in-Bytes.is at c.requires.m_bound))

pub overflow_add-result-in-Bytes : goal.overflow_add-result-in-Bytes
overflow_add-result-in-Bytes c = omega (arith, bytes_low (rw c.in-Bytes.is at c.requires.in_view) (rw c.in-Bytes.is at c.requires.m_bound), c.u16_at.ensures.1)

pub returns-in-Bytes : goal.returns-in-Bytes
returns-in-Bytes c = let x = rw c.in-Bytes.is at c.requires.m_bound in rw c.in-Bytes.is (ap (λ (k : ℕ). c.args.at + (4 + 25 * k)) c.u16_at.ensures.0 ∙ next_offset c.in-Bytes.s.now c.args.m c.args.at x.1)
