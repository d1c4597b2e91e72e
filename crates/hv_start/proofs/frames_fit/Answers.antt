-- `hv_start::frames_fit` meets its contract. Assumes nothing.
use native.Mathlib.Omega.{arith}
use Rattle.base.proofs.Says.{refused, not_refused}
use Rattle.hv_start.proofs.Sizes.{host_is, few_frames, few_pages, framed}
use Rattle.hv_start.proofs.frames_fit.Goals as goal

pub returns-then-not-is_backed : goal.returns-then-not-is_backed
returns-then-not-is_backed c = (c.in_ok-fitting.ensures.matched, refused c.is_backed.result c.if-not-is_backed.true-raw c.is_backed.ensures)

pub returns-then-owners-pool : goal.returns-then-owners-pool
returns-then-owners-pool c = few_frames _ _ c.requires _ c.pool-pool.ensures _ _ _ c.in_ok-fitting.ensures (not_refused c.is_backed.result c.if-not-is_backed.false-raw c.is_backed.ensures) c.if-owners-pool.true

pub returns-then-pool-words : goal.returns-then-pool-words
returns-then-pool-words c = few_pages _ _ c.requires _ c.pool-pool.ensures _ _ _ c.in_ok-fitting.ensures (not_refused c.is_backed.result c.if-not-is_backed.false-raw c.is_backed.ensures) (omega (arith, c.if-owners-pool.false)) c.if-pool-words.true

pub returns : goal.returns
returns c = (framed _ _ c.requires _ c.pool-pool.ensures _ _ _ c.in_ok-fitting.ensures (not_refused c.is_backed.result c.if-not-is_backed.false-raw c.is_backed.ensures) (omega (arith, c.if-owners-pool.false)) (omega (arith, c.if-pool-words.false)), host_is _ _ c.requires _ c.pool-pool.ensures)
