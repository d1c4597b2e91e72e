-- `hv_check::is_frame_right` meets its contract. Assumes nothing.
use native.Mathlib.Omega.{arith}
use mathlib.Core.Path.{sym, ◌∙◌}
use Rattle.bitmap_tree.proofs.Nodes.{bit_clear}
use Rattle.bitmap_tree.proofs.Fullness.{full_bound}
use Rattle.owners.proofs.Writes.{byte_at}
use Rattle.hv_check.proofs.Laws.{place_within, laid_within, frame_free, frame_no_machine, frame_says}
use lib.ListN.{get_or}
use Rattle.hv_check.proofs.is_frame_right.Goals as goal

pub overflow_add-tree : goal.overflow_add-tree
overflow_add-tree c = let b = full_bound _ c.requires.1.full in omega arith

pub read-requires : goal.read-requires
read-requires c = let b = full_bound _ c.requires.1.full in (omega arith, omega arith)

pub returns-then-read-eq1 : goal.returns-then-read-eq1
returns-then-read-eq1 c = frame_free _ _ _ _ (sym c.read.ensures ∙ c.if-read-eq1.true)

pub bounds-owners-k : goal.bounds-owners-k
bounds-owners-k c = let e = c.requires.1.bytes in omega arith

pub overflow_cast-m : goal.overflow_cast-m
overflow_cast-m c = omega (arith, c.shared_slice_known-4-1.given c.args.k)

pub returns-then-n-m : goal.returns-then-n-m
returns-then-n-m c = let e = c.requires.1.bytes in let x = byte_at c.args.owners.now c.args.k (omega arith) in frame_no_machine _ _ _ _ _ _ (bit_clear c.args.tree.now _ (λ q. c.if-read-eq1.false (c.read.ensures ∙ q))) (sym x) (omega arith)

pub overflow_mul-result : goal.overflow_mul-result
overflow_mul-result c = let l = place_within c.args.zones.now c.args.slots (get_or c.args.owners.now c.args.k 0) (laid_within c.args.zones.now c.args.n c.args.slots (get_or c.args.owners.now c.args.k 0) c.requires.0 (omega (arith, c.if-n-m.false))) in omega arith

pub overflow_add-result : goal.overflow_add-result
overflow_add-result c = let l = place_within c.args.zones.now c.args.slots (get_or c.args.owners.now c.args.k 0) (laid_within c.args.zones.now c.args.n c.args.slots (get_or c.args.owners.now c.args.k 0) c.requires.0 (omega (arith, c.if-n-m.false))) in omega arith

pub overflow_mul-result-2 : goal.overflow_mul-result-2
overflow_mul-result-2 c = let l = place_within c.args.zones.now c.args.slots (get_or c.args.owners.now c.args.k 0) (laid_within c.args.zones.now c.args.n c.args.slots (get_or c.args.owners.now c.args.k 0) c.requires.0 (omega (arith, c.if-n-m.false))) in record { fits = omega arith }

pub offset_bounds-zones-m : goal.offset_bounds-zones-m
offset_bounds-zones-m c = let l = place_within c.args.zones.now c.args.slots (get_or c.args.owners.now c.args.k 0) (laid_within c.args.zones.now c.args.n c.args.slots (get_or c.args.owners.now c.args.k 0) c.requires.0 (omega (arith, c.if-n-m.false))) in omega arith

pub bounds-zones-m : goal.bounds-zones-m
bounds-zones-m c = let l = place_within c.args.zones.now c.args.slots (get_or c.args.owners.now c.args.k 0) (laid_within c.args.zones.now c.args.n c.args.slots (get_or c.args.owners.now c.args.k 0) c.requires.0 (omega (arith, c.if-n-m.false))) in omega arith

pub returns : goal.returns
returns c = let e = c.requires.1.bytes in let x = byte_at c.args.owners.now c.args.k (omega arith) in frame_says _ _ _ _ _ _ _ c.requires.0 (bit_clear c.args.tree.now _ (λ q. c.if-read-eq1.false (c.read.ensures ∙ q))) (sym x) (omega (arith, c.if-n-m.false))
