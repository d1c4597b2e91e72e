-- An example of every answer of the functions that change a tree. Assumes nothing.
use mathlib.Core.Path.{◌≡◌, refl}
use Prim.Native.Nat.{◌+◌}
use native.Mathlib.Omega.{arith}
use lib.Dec.{lit<, lit≤}
use Rattle.std.proofs.Common.{Ok, Err}
use Rattle.bitmap_allocator.specs.Changes.{ResetSays, AllocSays, RunSays, DeallocSays, RangeSays}
use Rattle.bitmap_allocator.specs.declared.NotAllocated.{NotAllocated}
use Rattle.bitmap_allocator.specs.declared.RunNotTaken.{RunNotTaken}
use Rattle.bitmap_allocator.specs.declared.NotFreed.{NotFreed}
use Rattle.bitmap_allocator.specs.declared.BadRange.{BadRange}
use Rattle.bitmap_examples.proofs.Trees.{nothing, taken, one, lying, not_full_lem, full, full_lying, agree, lies, none_free, first_free, one_free, was_taken, was_freed}

-- ---- reset

pub reset_ok : ResetSays one taken (Ok tt)
reset_ok = record { full = full; long = refl; taken = λ k l h. none_free k; agree = agree 0 }

pub reset_not_full : ResetSays nothing nothing (Err (record {}))
reset_not_full = (refl, not_full_lem)

-- ---- alloc

pub alloc_ok : AllocSays one taken (Ok 0)
alloc_ok = record { full = full; within = lit< tt; was = first_free; lowest = λ a m l. omega arith; change = was_taken }

pub alloc_no_room : AllocSays taken taken (Err NotAllocated.NoRoom)
alloc_no_room = record { kept = refl; full = full; root = refl; none = λ a k l h. none_free k }

pub alloc_corrupt : AllocSays lying lying (Err NotAllocated.Corrupt)
alloc_corrupt = record { kept = refl; full = full_lying; lie = lies }

pub alloc_not_full : AllocSays nothing nothing (Err NotAllocated.NotFull)
alloc_not_full = (refl, not_full_lem)

-- ---- alloc_contiguous

pub alloc_contiguous_ok : RunSays one 1 3 taken (Ok 0)
alloc_contiguous_ok =
    record {
      full = full;
      some = lit< tt;
      run = record { run = record { fits = lit≤ tt; aligned = refl; clear = λ m l h. let q : m ≡ 0 = omega arith in rw q first_free }; lowest = λ a x r. omega arith };
      change = was_taken;
    }

-- two frames, where one is free
pub alloc_contiguous_no_room : RunSays one 2 0 one (Err RunNotTaken.NoRoom)
alloc_contiguous_no_room =
    record {
      kept = refl;
      full = full;
      some = lit< tt;
      none = λ a x r. let e = r.clear (x + 1) (omega arith) (omega arith) in let z = one_free (x + 1) (omega arith) in omega arith;
    }

pub alloc_contiguous_corrupt : RunSays lying 1 0 lying (Err RunNotTaken.Corrupt)
alloc_contiguous_corrupt = (alloc_corrupt, lit< tt)

pub alloc_contiguous_empty : RunSays one 0 0 one (Err RunNotTaken.Empty)
alloc_contiguous_empty = (refl, full, refl)

pub alloc_contiguous_not_full : RunSays nothing 1 0 nothing (Err RunNotTaken.NotFull)
alloc_contiguous_not_full = (refl, not_full_lem)

-- ---- dealloc

pub dealloc_ok : DeallocSays taken 0 one (Ok tt)
dealloc_ok = record { full = full; within = lit< tt; was = none_free 0; change = was_freed }

pub dealloc_not_taken : DeallocSays one 0 one (Err NotFreed.NotTaken)
dealloc_not_taken = record { kept = refl; full = full; within = lit< tt; is = first_free }

pub dealloc_outside : DeallocSays one 16 one (Err NotFreed.Outside)
dealloc_outside = (refl, full, lit≤ tt)

pub dealloc_not_full : DeallocSays nothing 0 nothing (Err NotFreed.NotFull)
dealloc_not_full = (refl, not_full_lem)

-- ---- insert

pub insert_ok : RangeSays taken 0 1 1 one (Ok tt)
insert_ok = record { full = full; some = lit< tt; within = lit≤ tt; change = was_freed }

pub insert_empty : RangeSays taken 5 5 1 taken (Err BadRange.Empty)
insert_empty = (refl, full, refl)

pub insert_reversed : RangeSays taken 6 5 1 taken (Err BadRange.Reversed)
insert_reversed = (refl, full, lit< tt)

pub insert_outside : RangeSays taken 0 17 1 taken (Err BadRange.Outside)
insert_outside = record { kept = refl; full = full; some = lit< tt; past = lit< tt }

pub insert_not_full : RangeSays nothing 0 1 1 nothing (Err BadRange.NotFull)
insert_not_full = (refl, not_full_lem)

-- ---- remove

pub remove_ok : RangeSays one 0 1 0 taken (Ok tt)
remove_ok = record { full = full; some = lit< tt; within = lit≤ tt; change = was_taken }

pub remove_empty : RangeSays one 5 5 0 one (Err BadRange.Empty)
remove_empty = (refl, full, refl)

pub remove_reversed : RangeSays one 6 5 0 one (Err BadRange.Reversed)
remove_reversed = (refl, full, lit< tt)

pub remove_outside : RangeSays one 0 17 0 one (Err BadRange.Outside)
remove_outside = record { kept = refl; full = full; some = lit< tt; past = lit< tt }

pub remove_not_full : RangeSays nothing 0 1 0 nothing (Err BadRange.NotFull)
remove_not_full = (refl, not_full_lem)
