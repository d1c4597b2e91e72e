-- An example of every answer of the functions for clients, with the frames' own memory. What is said beside the frames' words is that of
-- global_allocator's examples. Assumes nothing.
use Rattle.std.specs.Prelude.{Ok, Err}
use lib.Dec.{lit<, lit≤}
use Rattle.bitmap_examples.proofs.Trees.{nothing, taken, one, lying}
use Rattle.owners.proofs.Writes.{kept}
use Rattle.claims.specs.declared.Unfit.{Unfit}
use Rattle.claims.specs.declared.NoFrame.{NoFrame}
use Rattle.claims.specs.declared.NoRun.{NoRun}
use Rattle.claims.specs.declared.NotFreed.{NotFreed}
use Rattle.claims.specs.declared.NotFreed.TheVariants as notFreed
use Rattle.claims.specs.declared.RunNotFreed.{RunNotFreed}
use Rattle.claims.specs.declared.RunNotFreed.TheVariants as runNotFreed
use Rattle.contents.proofs.Cleaning.{kept_all}
use Rattle.frames.specs.declared.NotGiven.{NotGiven}
use Rattle.frames.specs.declared.NotReturned.{NotReturned}
use Rattle.frames.specs.Frames.{AllocSays, RunSays, DeallocSays, DeallocRunSays}
use Rattle.frames.proofs.Cleaning.{gave, gave_run, took_back, took_run_back}
use Rattle.allocator_examples.proofs.Memories.{nobody, held, few, nobody_of_many, given_back}
use Rattle.allocator_examples.proofs.GlobalAllocator as shared
use Rattle.frames_examples.proofs.Words.{zeros, dirty, word, zeros_backed, dirty_backed, none_backed, unbacked, wiped}

-- ---- alloc

pub alloc_ok : AllocSays 65536 one nobody zeros 0 taken held (Ok 65536)
alloc_ok = gave 65536 one nobody zeros 0 65536 taken held (zeros_backed nobody (lit≤ tt)) shared.alloc_ok

pub alloc_unbacked : AllocSays 65536 one nobody word 0 one nobody (Err NotGiven.Unbacked)
alloc_unbacked = (kept _ _, unbacked nobody)

pub alloc_no_unfit_not_full : AllocSays 65536 nothing nobody zeros 0 nothing nobody (Err (NotGiven.No (NoFrame.Unfit Unfit.NotFull)))
alloc_no_unfit_not_full = (kept _ _, zeros_backed nobody (lit≤ tt), (shared.alloc_unfit_not_full).1)

pub alloc_no_unfit_unmatched : AllocSays 65536 one few zeros 0 one few (Err (NotGiven.No (NoFrame.Unfit Unfit.Unmatched)))
alloc_no_unfit_unmatched = (kept _ _, zeros_backed few (lit≤ tt), (shared.alloc_unfit_unmatched).1)

pub alloc_no_unfit_bad_base : AllocSays 1 one nobody zeros 0 one nobody (Err (NotGiven.No (NoFrame.Unfit Unfit.BadBase)))
alloc_no_unfit_bad_base = (kept _ _, zeros_backed nobody (lit≤ tt), (shared.alloc_unfit_bad_base).1)

pub alloc_no_no_client : AllocSays 65536 one nobody zeros 64 one nobody (Err (NotGiven.No NoFrame.NoClient))
alloc_no_no_client = (kept _ _, zeros_backed nobody (lit≤ tt), (shared.alloc_no_client).1)

pub alloc_no_no_room : AllocSays 65536 taken held dirty 0 taken held (Err (NotGiven.No NoFrame.NoRoom))
alloc_no_no_room = (kept _ _, dirty_backed held (lit≤ tt), (shared.alloc_no_room).1)

pub alloc_no_corrupt : AllocSays 65536 lying nobody_of_many zeros 0 lying nobody_of_many (Err (NotGiven.No NoFrame.Corrupt))
alloc_no_corrupt = (kept _ _, zeros_backed nobody_of_many (lit≤ tt), (shared.alloc_corrupt).1)

-- ---- alloc_contiguous

pub alloc_contiguous_ok : RunSays 65536 one nobody zeros 0 1 3 taken held (Ok 65536)
alloc_contiguous_ok = gave_run 65536 one nobody zeros 0 1 3 65536 taken held (zeros_backed nobody (lit≤ tt)) shared.alloc_contiguous_ok

pub alloc_contiguous_unbacked : RunSays 65536 one nobody word 0 1 3 one nobody (Err NotGiven.Unbacked)
alloc_contiguous_unbacked = (kept _ _, unbacked nobody)

pub alloc_contiguous_no_unfit_not_full : RunSays 65536 nothing nobody zeros 0 1 0 nothing nobody (Err (NotGiven.No (NoRun.Unfit Unfit.NotFull)))
alloc_contiguous_no_unfit_not_full = (kept _ _, zeros_backed nobody (lit≤ tt), (shared.alloc_contiguous_unfit_not_full).1)

pub alloc_contiguous_no_unfit_unmatched : RunSays 65536 one few zeros 0 1 0 one few (Err (NotGiven.No (NoRun.Unfit Unfit.Unmatched)))
alloc_contiguous_no_unfit_unmatched = (kept _ _, zeros_backed few (lit≤ tt), (shared.alloc_contiguous_unfit_unmatched).1)

pub alloc_contiguous_no_unfit_bad_base : RunSays 1 one nobody zeros 0 1 0 one nobody (Err (NotGiven.No (NoRun.Unfit Unfit.BadBase)))
alloc_contiguous_no_unfit_bad_base = (kept _ _, zeros_backed nobody (lit≤ tt), (shared.alloc_contiguous_unfit_bad_base).1)

pub alloc_contiguous_no_no_client : RunSays 65536 one nobody zeros 64 1 0 one nobody (Err (NotGiven.No NoRun.NoClient))
alloc_contiguous_no_no_client = (kept _ _, zeros_backed nobody (lit≤ tt), (shared.alloc_contiguous_no_client).1)

pub alloc_contiguous_no_empty : RunSays 65536 one nobody zeros 0 0 0 one nobody (Err (NotGiven.No NoRun.Empty))
alloc_contiguous_no_empty = (kept _ _, zeros_backed nobody (lit≤ tt), (shared.alloc_contiguous_empty).1)

pub alloc_contiguous_no_no_room : RunSays 65536 one nobody zeros 0 2 0 one nobody (Err (NotGiven.No NoRun.NoRoom))
alloc_contiguous_no_no_room = (kept _ _, zeros_backed nobody (lit≤ tt), (shared.alloc_contiguous_no_room).1)

pub alloc_contiguous_no_corrupt : RunSays 65536 lying nobody_of_many zeros 0 1 0 lying nobody_of_many (Err (NotGiven.No NoRun.Corrupt))
alloc_contiguous_no_corrupt = (kept _ _, zeros_backed nobody_of_many (lit≤ tt), (shared.alloc_contiguous_corrupt).1)

-- ---- dealloc

pub dealloc_ok : DeallocSays 65536 taken held dirty 0 65536 one nobody zeros (Ok tt)
dealloc_ok = took_back 65536 taken held dirty 0 65536 one nobody zeros (dirty_backed held (lit≤ tt)) 0 shared.mine given_back wiped (lit< tt)

pub dealloc_unbacked : DeallocSays 65536 taken held word 0 65536 taken held word (Err NotReturned.Unbacked)
dealloc_unbacked = (kept_all _ _ _, unbacked held)

-- client 0's frame has no contents
pub dealloc_corrupt : DeallocSays 65536 taken held nothing 0 65536 taken held nothing (Err NotReturned.Corrupt)
dealloc_corrupt = (kept_all _ _ _, record { backed = none_backed held; frame = 0; mine = shared.mine; past = lit≤ tt })

pub dealloc_no_unfit_not_full : DeallocSays 65536 nothing nobody zeros 0 65536 nothing nobody zeros (Err (NotReturned.No (NotFreed.Unfit Unfit.NotFull)))
dealloc_no_unfit_not_full = (kept_all _ _ _, zeros_backed nobody (lit≤ tt), (shared.dealloc_unfit_not_full).1)

pub dealloc_no_unfit_unmatched : DeallocSays 65536 one few zeros 0 65536 one few zeros (Err (NotReturned.No (NotFreed.Unfit Unfit.Unmatched)))
dealloc_no_unfit_unmatched = (kept_all _ _ _, zeros_backed few (lit≤ tt), (shared.dealloc_unfit_unmatched).1)

pub dealloc_no_unfit_bad_base : DeallocSays 1 one nobody zeros 0 1 one nobody zeros (Err (NotReturned.No (NotFreed.Unfit Unfit.BadBase)))
dealloc_no_unfit_bad_base = (kept_all _ _ _, zeros_backed nobody (lit≤ tt), (shared.dealloc_unfit_bad_base).1)

pub dealloc_no_no_client : DeallocSays 65536 taken held dirty 64 65536 taken held dirty (Err (NotReturned.No NotFreed.NoClient))
dealloc_no_no_client = (kept_all _ _ _, dirty_backed held (lit≤ tt), (shared.dealloc_no_client).1)

pub dealloc_no_below : DeallocSays 65536 taken held dirty 0 0 taken held dirty (Err (NotReturned.No notFreed.Below))
dealloc_no_below = (kept_all _ _ _, dirty_backed held (lit≤ tt), (shared.dealloc_below).1)

pub dealloc_no_not_at_frame : DeallocSays 65536 taken held dirty 0 65537 taken held dirty (Err (NotReturned.No NotFreed.NotAtFrame))
dealloc_no_not_at_frame = (kept_all _ _ _, dirty_backed held (lit≤ tt), (shared.dealloc_not_at_frame).1)

pub dealloc_no_outside : DeallocSays 65536 taken held dirty 0 131072 taken held dirty (Err (NotReturned.No NotFreed.Outside))
dealloc_no_outside = (kept_all _ _ _, dirty_backed held (lit≤ tt), (shared.dealloc_outside).1)

pub dealloc_no_not_taken : DeallocSays 65536 one nobody zeros 0 65536 one nobody zeros (Err (NotReturned.No NotFreed.NotTaken))
dealloc_no_not_taken = (kept_all _ _ _, zeros_backed nobody (lit≤ tt), (shared.dealloc_not_taken).1)

pub dealloc_no_not_yours : DeallocSays 65536 taken held dirty 6 65536 taken held dirty (Err (NotReturned.No NotFreed.NotYours))
dealloc_no_not_yours = (kept_all _ _ _, dirty_backed held (lit≤ tt), (shared.dealloc_not_yours).1)

-- ---- dealloc_contiguous

pub dealloc_contiguous_ok : DeallocRunSays 65536 taken held dirty 0 65536 1 one nobody zeros (Ok tt)
dealloc_contiguous_ok =
    took_run_back 65536 taken held dirty 0 65536 one nobody zeros (dirty_backed held (lit≤ tt)) 1 0 shared.run_mine given_back wiped (lit≤ tt)

pub dealloc_contiguous_unbacked : DeallocRunSays 65536 taken held word 0 65536 1 taken held word (Err NotReturned.Unbacked)
dealloc_contiguous_unbacked = (kept_all _ _ _, unbacked held)

-- client 0's frame has no contents
pub dealloc_contiguous_corrupt : DeallocRunSays 65536 taken held nothing 0 65536 1 taken held nothing (Err NotReturned.Corrupt)
dealloc_contiguous_corrupt = (kept_all _ _ _, record { backed = none_backed held; first = 0; mine = shared.run_mine; past = lit< tt })

pub dealloc_contiguous_no_unfit_not_full : DeallocRunSays 65536 nothing nobody zeros 0 65536 1 nothing nobody zeros (Err (NotReturned.No (RunNotFreed.Unfit Unfit.NotFull)))
dealloc_contiguous_no_unfit_not_full = (kept_all _ _ _, zeros_backed nobody (lit≤ tt), (shared.dealloc_contiguous_unfit_not_full).1)

pub dealloc_contiguous_no_unfit_unmatched : DeallocRunSays 65536 one few zeros 0 65536 1 one few zeros (Err (NotReturned.No (RunNotFreed.Unfit Unfit.Unmatched)))
dealloc_contiguous_no_unfit_unmatched = (kept_all _ _ _, zeros_backed few (lit≤ tt), (shared.dealloc_contiguous_unfit_unmatched).1)

pub dealloc_contiguous_no_unfit_bad_base : DeallocRunSays 1 one nobody zeros 0 1 1 one nobody zeros (Err (NotReturned.No (RunNotFreed.Unfit Unfit.BadBase)))
dealloc_contiguous_no_unfit_bad_base = (kept_all _ _ _, zeros_backed nobody (lit≤ tt), (shared.dealloc_contiguous_unfit_bad_base).1)

pub dealloc_contiguous_no_no_client : DeallocRunSays 65536 taken held dirty 64 65536 1 taken held dirty (Err (NotReturned.No RunNotFreed.NoClient))
dealloc_contiguous_no_no_client = (kept_all _ _ _, dirty_backed held (lit≤ tt), (shared.dealloc_contiguous_no_client).1)

pub dealloc_contiguous_no_below : DeallocRunSays 65536 taken held dirty 0 0 1 taken held dirty (Err (NotReturned.No runNotFreed.Below))
dealloc_contiguous_no_below = (kept_all _ _ _, dirty_backed held (lit≤ tt), (shared.dealloc_contiguous_below).1)

pub dealloc_contiguous_no_not_at_frame : DeallocRunSays 65536 taken held dirty 0 65537 1 taken held dirty (Err (NotReturned.No RunNotFreed.NotAtFrame))
dealloc_contiguous_no_not_at_frame = (kept_all _ _ _, dirty_backed held (lit≤ tt), (shared.dealloc_contiguous_not_at_frame).1)

pub dealloc_contiguous_no_empty : DeallocRunSays 65536 taken held dirty 0 65536 0 taken held dirty (Err (NotReturned.No RunNotFreed.Empty))
dealloc_contiguous_no_empty = (kept_all _ _ _, dirty_backed held (lit≤ tt), (shared.dealloc_contiguous_empty).1)

pub dealloc_contiguous_no_outside : DeallocRunSays 65536 taken held dirty 0 65536 17 taken held dirty (Err (NotReturned.No RunNotFreed.Outside))
dealloc_contiguous_no_outside = (kept_all _ _ _, dirty_backed held (lit≤ tt), (shared.dealloc_contiguous_outside).1)

pub dealloc_contiguous_no_not_taken : DeallocRunSays 65536 one nobody zeros 0 65536 1 one nobody zeros (Err (NotReturned.No (RunNotFreed.NotTaken 0)))
dealloc_contiguous_no_not_taken = (kept_all _ _ _, zeros_backed nobody (lit≤ tt), (shared.dealloc_contiguous_not_taken).1)

pub dealloc_contiguous_no_not_yours : DeallocRunSays 65536 taken held dirty 6 65536 1 taken held dirty (Err (NotReturned.No (RunNotFreed.NotYours 0)))
dealloc_contiguous_no_not_yours = (kept_all _ _ _, dirty_backed held (lit≤ tt), (shared.dealloc_contiguous_not_yours).1)
