-- An example of every answer of the functions for the monitor, with the frames' own memory. What is said beside the frames' words is that
-- of allocator_pool's examples. Assumes nothing.
use mathlib.Core.Path.{sym, ◌∙◌}
use Prim.Native.Nat.{◌≤◌}
use native.Mathlib.Omega.{arith}
use Rattle.std.specs.Prelude.{Ok, Err}
use lib.Dec.{lit<, lit≤}
use Rattle.bitmap_examples.proofs.Trees as trees
use Rattle.bitmap_examples.proofs.Trees.{nothing, taken, one, lying}
use Rattle.owners.proofs.States.{not_reserved, client_not_reserved}
use Rattle.owners.proofs.Writes.{kept}
use Rattle.claims.specs.declared.Unfit.{Unfit}
use Rattle.claims.specs.declared.NotChanged.{NotChanged}
use Rattle.contents.proofs.Cleaning.{kept_all}
use Rattle.frames_pool.specs.declared.NotBegun.{NotBegun}
use Rattle.frames_pool.specs.declared.NotOpened.{NotOpened}
use Rattle.frames_pool.specs.declared.NotClosed.{NotClosed}
use Rattle.frames_pool.specs.declared.NotLeft.{NotLeft}
use Rattle.frames_pool.specs.declared.Unclean.{Unclean}
use Rattle.frames_pool.specs.Pool.{InitSays, InsertSays, RemoveSays, ReleaseSays, CheckSays}
use Rattle.frames_pool.proofs.Cleaning.{init, opened, closed, left_clean}
use Rattle.allocator_examples.proofs.Memories.{nobody, held, strange, few, nobody_of_many, high, accounted_free, first_free, first_owned, behind_free, behind_owned}
use Rattle.allocator_examples.proofs.AllocatorPool as shared
use Rattle.frames_examples.proofs.Words.{zeros, dirty, word, zeros_backed, dirty_backed, none_backed, unbacked, dirty_first, wiped, wiped_of, clean_free}

-- ---- init

pub init_ok : InitSays 65536 taken held dirty one nobody zeros (Ok tt)
init_ok =
    init 65536 taken held dirty one nobody zeros (record { backed = dirty_backed held (lit≤ tt); fits = (shared.init_ok).fits }) (lit< tt) wiped (shared.init_ok).begun

pub init_unbacked : InitSays 65536 taken held word taken held word (Err NotBegun.Unbacked)
init_unbacked = (kept_all _ _ _, unbacked held)

pub init_too_high : InitSays high taken nobody zeros taken nobody zeros (Err NotBegun.TooHigh)
init_too_high = (kept_all _ _ _, record { backed = zeros_backed nobody (lit≤ tt); fits = (shared.init_too_high).1 }, lit≤ tt)

pub init_unfit_not_full : InitSays 65536 nothing nobody zeros nothing nobody zeros (Err (NotBegun.Unfit Unfit.NotFull))
init_unfit_not_full = (kept_all _ _ _, zeros_backed nobody (lit≤ tt), (shared.init_unfit_not_full).1)

pub init_unfit_unmatched : InitSays 65536 one few zeros one few zeros (Err (NotBegun.Unfit Unfit.Unmatched))
init_unfit_unmatched = (kept_all _ _ _, zeros_backed few (lit≤ tt), (shared.init_unfit_unmatched).1)

pub init_unfit_bad_base : InitSays 1 one nobody zeros one nobody zeros (Err (NotBegun.Unfit Unfit.BadBase))
init_unfit_bad_base = (kept_all _ _ _, zeros_backed nobody (lit≤ tt), (shared.init_unfit_bad_base).1)

-- ---- insert

pub insert_ok : InsertSays 65536 taken nobody dirty 0 1 one nobody zeros (Ok tt)
insert_ok = opened 65536 taken nobody dirty 0 1 one nobody zeros (dirty_backed nobody (lit≤ tt)) shared.insert_ok wiped (lit≤ tt)

pub insert_unbacked : InsertSays 65536 taken nobody word 0 1 taken nobody word (Err NotOpened.Unbacked)
insert_unbacked = (kept_all _ _ _, unbacked nobody)

pub insert_too_high : InsertSays high taken nobody zeros 0 1 taken nobody zeros (Err NotOpened.TooHigh)
insert_too_high = (kept_all _ _ _, record { backed = zeros_backed nobody (lit≤ tt); may = (shared.insert_too_high).1 }, lit≤ tt)

-- no frame has contents
pub insert_beyond : InsertSays 65536 taken nobody nothing 0 1 taken nobody nothing (Err NotOpened.Beyond)
insert_beyond = (kept_all _ _ _, record { backed = none_backed nobody; may = (shared.insert_ok).may }, lit< tt, lit< tt)

pub insert_no_unfit_not_full : InsertSays 65536 nothing nobody zeros 0 1 nothing nobody zeros (Err (NotOpened.No (NotChanged.Unfit Unfit.NotFull)))
insert_no_unfit_not_full = (kept_all _ _ _, zeros_backed nobody (lit≤ tt), (shared.insert_no_unfit_not_full).1)

pub insert_no_unfit_unmatched : InsertSays 65536 one few zeros 0 1 one few zeros (Err (NotOpened.No (NotChanged.Unfit Unfit.Unmatched)))
insert_no_unfit_unmatched = (kept_all _ _ _, zeros_backed few (lit≤ tt), (shared.insert_no_unfit_unmatched).1)

pub insert_no_unfit_bad_base : InsertSays 1 one nobody zeros 0 1 one nobody zeros (Err (NotOpened.No (NotChanged.Unfit Unfit.BadBase)))
insert_no_unfit_bad_base = (kept_all _ _ _, zeros_backed nobody (lit≤ tt), (shared.insert_no_unfit_bad_base).1)

pub insert_no_empty : InsertSays 65536 one nobody zeros 5 5 one nobody zeros (Err (NotOpened.No NotChanged.Empty))
insert_no_empty = (kept_all _ _ _, zeros_backed nobody (lit≤ tt), (shared.insert_no_empty).1)

pub insert_no_reversed : InsertSays 65536 one nobody zeros 6 5 one nobody zeros (Err (NotOpened.No NotChanged.Reversed))
insert_no_reversed = (kept_all _ _ _, zeros_backed nobody (lit≤ tt), (shared.insert_no_reversed).1)

pub insert_no_outside : InsertSays 65536 one nobody zeros 0 17 one nobody zeros (Err (NotOpened.No NotChanged.Outside))
insert_no_outside = (kept_all _ _ _, zeros_backed nobody (lit≤ tt), (shared.insert_no_outside).1)

pub insert_no_taken : InsertSays 65536 taken held dirty 0 1 taken held dirty (Err (NotOpened.No (NotChanged.Taken 0)))
insert_no_taken = (kept_all _ _ _, dirty_backed held (lit≤ tt), (shared.insert_no_taken).1)

-- ---- remove

pub remove_ok : RemoveSays 65536 one nobody zeros 0 1 taken nobody (Ok tt)
remove_ok = closed 65536 one nobody zeros 0 1 taken nobody (zeros_backed nobody (lit≤ tt)) shared.remove_ok

pub remove_unbacked : RemoveSays 65536 one nobody word 0 1 one nobody (Err NotClosed.Unbacked)
remove_unbacked = (kept _ _, unbacked nobody)

pub remove_no_unfit_not_full : RemoveSays 65536 nothing nobody zeros 0 1 nothing nobody (Err (NotClosed.No (NotChanged.Unfit Unfit.NotFull)))
remove_no_unfit_not_full = (kept _ _, zeros_backed nobody (lit≤ tt), (shared.remove_unfit_not_full).1)

pub remove_no_unfit_unmatched : RemoveSays 65536 one few zeros 0 1 one few (Err (NotClosed.No (NotChanged.Unfit Unfit.Unmatched)))
remove_no_unfit_unmatched = (kept _ _, zeros_backed few (lit≤ tt), (shared.remove_unfit_unmatched).1)

pub remove_no_unfit_bad_base : RemoveSays 1 one nobody zeros 0 1 one nobody (Err (NotClosed.No (NotChanged.Unfit Unfit.BadBase)))
remove_no_unfit_bad_base = (kept _ _, zeros_backed nobody (lit≤ tt), (shared.remove_unfit_bad_base).1)

pub remove_no_empty : RemoveSays 65536 one nobody zeros 5 5 one nobody (Err (NotClosed.No NotChanged.Empty))
remove_no_empty = (kept _ _, zeros_backed nobody (lit≤ tt), (shared.remove_empty).1)

pub remove_no_reversed : RemoveSays 65536 one nobody zeros 6 5 one nobody (Err (NotClosed.No NotChanged.Reversed))
remove_no_reversed = (kept _ _, zeros_backed nobody (lit≤ tt), (shared.remove_reversed).1)

pub remove_no_outside : RemoveSays 65536 one nobody zeros 0 17 one nobody (Err (NotClosed.No NotChanged.Outside))
remove_no_outside = (kept _ _, zeros_backed nobody (lit≤ tt), (shared.remove_outside).1)

pub remove_no_taken : RemoveSays 65536 taken held dirty 0 1 taken held (Err (NotClosed.No (NotChanged.Taken 0)))
remove_no_taken = (kept _ _, dirty_backed held (lit≤ tt), (shared.remove_taken).1)

-- ---- release_all

pub release_all_ok : ReleaseSays 65536 taken held dirty 0 one nobody zeros (Ok tt)
release_all_ok =
    record {
      backed = dirty_backed held (lit≤ tt);
      known = (shared.release_all_ok).0;
      inside = λ k l e. let h : 1 ≤ k = l in client_not_reserved 0 (sym e ∙ behind_owned k (omega arith));
      released = (shared.release_all_ok).1;
      wiped = wiped_of;
      clean = left_clean 65536 taken held dirty 0 one nobody zeros (shared.release_all_ok).1 wiped_of;
    }

pub release_all_unbacked : ReleaseSays 65536 taken held word 0 taken held word (Err NotLeft.Unbacked)
release_all_unbacked = (kept_all _ _ _, unbacked held)

-- client 0's frame has no contents
pub release_all_corrupt : ReleaseSays 65536 taken held nothing 0 taken held nothing (Err NotLeft.Corrupt)
release_all_corrupt =
    (kept_all _ _ _, record { backed = none_backed held; known = (shared.release_all_ok).0; frame = 0; past = lit≤ tt; mine = first_owned })

pub release_all_no_client : ReleaseSays 65536 taken held dirty 64 taken held dirty (Err NotLeft.NoClient)
release_all_no_client = (kept_all _ _ _, record { backed = dirty_backed held (lit≤ tt); fits = (shared.release_all_no_client).1 }, lit≤ tt)

pub release_all_unfit_not_full : ReleaseSays 65536 nothing nobody zeros 0 nothing nobody zeros (Err (NotLeft.Unfit Unfit.NotFull))
release_all_unfit_not_full = (kept_all _ _ _, zeros_backed nobody (lit≤ tt), (shared.release_all_unfit_not_full).1)

pub release_all_unfit_unmatched : ReleaseSays 65536 one few zeros 0 one few zeros (Err (NotLeft.Unfit Unfit.Unmatched))
release_all_unfit_unmatched = (kept_all _ _ _, zeros_backed few (lit≤ tt), (shared.release_all_unfit_unmatched).1)

pub release_all_unfit_bad_base : ReleaseSays 1 one nobody zeros 0 one nobody zeros (Err (NotLeft.Unfit Unfit.BadBase))
release_all_unfit_bad_base = (kept_all _ _ _, zeros_backed nobody (lit≤ tt), (shared.release_all_unfit_bad_base).1)

-- ---- check

pub check_ok : CheckSays 65536 one nobody zeros (Ok tt)
check_ok = clean_free

pub check_unbacked : CheckSays 65536 one nobody word (Err Unclean.Unbacked)
check_unbacked = unbacked nobody

pub check_lie : CheckSays 65536 lying nobody_of_many zeros (Err (Unclean.Lie 0))
check_lie = (record { backed = zeros_backed nobody_of_many (lit≤ tt); fits = (shared.check_lie).0 }, (shared.check_lie).1)

pub check_wrong : CheckSays 65536 taken strange zeros (Err (Unclean.Wrong 0))
check_wrong = (zeros_backed strange (lit≤ tt), shared.check_wrong)

-- a free frame has no contents
pub check_beyond : CheckSays 65536 one nobody nothing (Err (Unclean.Beyond 0))
check_beyond =
    record {
      accounted = accounted_free;
      backed = none_backed nobody;
      within = lit< tt;
      stops = record { low = lit≤ tt; high = lit≤ tt; before = λ k p q. absurd (omega arith); fails = λ _ e. not_reserved (sym first_free ∙ e) };
    }

-- a free frame has a word that is not 0
pub check_dirty : CheckSays 65536 one nobody dirty (Err (Unclean.Dirty 0))
check_dirty =
    record {
      accounted = accounted_free;
      backed = dirty_backed nobody (lit≤ tt);
      beyond = λ k l. let h : 1 ≤ k = l in behind_free k (omega arith);
      within = lit< tt;
      stops = record { low = lit≤ tt; high = lit≤ tt; before = λ k p q. absurd (omega arith); fails = λ _ z. dirty_first (z trees.first_free) };
    }

pub check_unfit_not_full : CheckSays 65536 nothing nobody zeros (Err (Unclean.Unfit Unfit.NotFull))
check_unfit_not_full = (zeros_backed nobody (lit≤ tt), shared.check_unfit_not_full)

pub check_unfit_unmatched : CheckSays 65536 one few zeros (Err (Unclean.Unfit Unfit.Unmatched))
check_unfit_unmatched = (zeros_backed few (lit≤ tt), shared.check_unfit_unmatched)

pub check_unfit_bad_base : CheckSays 1 one nobody zeros (Err (Unclean.Unfit Unfit.BadBase))
check_unfit_bad_base = (zeros_backed nobody (lit≤ tt), shared.check_unfit_bad_base)
