-- `hv_check::right_until` meets its contract. Assumes nothing.
use native.Mathlib.Omega.{arith}
use Rattle.base.proofs.Says.{refused, not_refused}
use Rattle.base.proofs.Search.{stops_none, stops_more, stops_at}
use Rattle.hv_check.proofs.right_until.Goals as goal

pub loop-k-init : goal.loop-k-init
loop-k-init c = stops_none 0

pub is_frame_right-requires : goal.is_frame_right-requires
is_frame_right-requires c = let e = c.requires.2 in (c.requires.0, c.requires.1, omega arith)

pub returns-then-not-is_frame_right : goal.returns-then-not-is_frame_right
returns-then-not-is_frame_right c = stops_at _ c.loop-k.invariant (omega arith) (λ l. refused c.is_frame_right.result c.if-not-is_frame_right.true-raw c.is_frame_right.ensures)

pub loop-k-preserved : goal.loop-k-preserved
loop-k-preserved c = stops_more c.loop-k.invariant (not_refused c.is_frame_right.result c.if-not-is_frame_right.false-raw c.is_frame_right.ensures)
