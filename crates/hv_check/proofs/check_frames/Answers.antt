-- `hv_check::check_frames` meets its contract. Assumes nothing.
use native.Mathlib.Omega.{arith}
use Rattle.base.proofs.Says.{refused, not_refused}
use Rattle.contents.specs.Contents.{Clean}
use Rattle.hv_check.proofs.Laws.{frames_unsound, few_frames, few_pages, all_right, frame_unsound}
use Rattle.hv_check.proofs.check_frames.Goals as goal

pub returns-then-not-is_clean : goal.returns-then-not-is_clean
returns-then-not-is_clean c = frames_unsound _ _ _ _ _ _ c.get-pool.ensures _ _ c.requires (refused c.is_clean.result c.if-not-is_clean.true-raw c.is_clean.ensures)

pub returns-then-owners-pages : goal.returns-then-owners-pages
returns-then-owners-pages c = few_frames _ _ _ _ _ _ c.get-pool.ensures _ _ c.requires (not_refused c.is_clean.result c.if-not-is_clean.false-raw c.is_clean.ensures) c.if-owners-pages.true

pub returns-then-pages-end : goal.returns-then-pages-end
returns-then-pages-end c = few_pages _ _ _ _ _ c.get-pool.result c.get-pool.ensures _ _ c.requires (not_refused c.is_clean.result c.if-not-is_clean.false-raw c.is_clean.ensures) (omega (arith, c.if-owners-pages.false)) (omega arith)

pub right_until-k-requires : goal.right_until-k-requires
right_until-k-requires c = let x : Clean c.get-pool.result.host c.args.tree.now c.args.owners.now c.args.words.now = not_refused c.is_clean.result c.if-not-is_clean.false-raw c.is_clean.ensures in let a = x.backed.few in let b = x.accounted.matched.bytes in (c.requires.laid, x.accounted.matched, omega arith)

pub returns-then-k-end : goal.returns-then-k-end
returns-then-k-end c = frame_unsound _ _ _ _ _ _ c.get-pool.ensures _ _ c.requires (not_refused c.is_clean.result c.if-not-is_clean.false-raw c.is_clean.ensures) (omega (arith, c.if-owners-pages.false)) (omega (arith, c.if-pages-end.false)) _ c.right_until-k.ensures c.if-k-end.true

pub returns : goal.returns
returns c = all_right _ _ _ _ _ _ c.get-pool.ensures _ _ c.requires (not_refused c.is_clean.result c.if-not-is_clean.false-raw c.is_clean.ensures) (omega (arith, c.if-owners-pages.false)) (omega (arith, c.if-pages-end.false)) _ c.right_until-k.ensures (omega (arith, c.if-k-end.false))
