-- What the exported functions of the bitmap say: that the bitmap's own function could have answered something of which the result is the
-- code, and what stands behind the pointer its value. Assumes nothing.
use Rattle.std.specs.Prelude.{List, ℕ, Result, Ok, Err}
use Rattle.bitmap_tree.specs.declared.NotFull.{NotFull}
use Rattle.bitmap_allocator.specs.declared.NotAllocated.{NotAllocated}
use Rattle.bitmap_allocator.specs.declared.RunNotTaken.{RunNotTaken}
use Rattle.bitmap_allocator.specs.declared.NotFreed.{NotFreed}
use Rattle.bitmap_allocator.specs.declared.BadRange.{BadRange}
use Rattle.bitmap_allocator.specs.Changes.{ResetSays, AllocSays, RunSays, DeallocSays, RangeSays}
use Rattle.codes.specs.Codes.{Coded, Valued, done, not_full, outside, empty, reversed, no_room, not_taken, corrupt}

-- ---- the code and the value of each answer

abbrev pub reset_code : Result Unit NotFull → ℕ
reset_code (Ok _) = done
reset_code (Err _) = not_full

abbrev pub alloc_code : Result ℕ NotAllocated → ℕ
alloc_code (Ok k) = done
alloc_code (Err NotAllocated.NoRoom) = no_room
alloc_code (Err NotAllocated.Corrupt) = corrupt
alloc_code (Err NotAllocated.NotFull) = not_full

abbrev pub alloc_value : Result ℕ NotAllocated → ℕ → ℕ
alloc_value (Ok k) old = k
alloc_value (Err NotAllocated.NoRoom) old = old
alloc_value (Err NotAllocated.Corrupt) old = old
alloc_value (Err NotAllocated.NotFull) old = old

abbrev pub run_code : Result ℕ RunNotTaken → ℕ
run_code (Ok s) = done
run_code (Err RunNotTaken.NoRoom) = no_room
run_code (Err RunNotTaken.Corrupt) = corrupt
run_code (Err RunNotTaken.Empty) = empty
run_code (Err RunNotTaken.NotFull) = not_full

abbrev pub run_value : Result ℕ RunNotTaken → ℕ → ℕ
run_value (Ok s) old = s
run_value (Err RunNotTaken.NoRoom) old = old
run_value (Err RunNotTaken.Corrupt) old = old
run_value (Err RunNotTaken.Empty) old = old
run_value (Err RunNotTaken.NotFull) old = old

abbrev pub dealloc_code : Result Unit NotFreed → ℕ
dealloc_code (Ok _) = done
dealloc_code (Err NotFreed.NotTaken) = not_taken
dealloc_code (Err NotFreed.Outside) = outside
dealloc_code (Err NotFreed.NotFull) = not_full

abbrev pub range_code : Result Unit BadRange → ℕ
range_code (Ok _) = done
range_code (Err BadRange.Empty) = empty
range_code (Err BadRange.Reversed) = reversed
range_code (Err BadRange.Outside) = outside
range_code (Err BadRange.NotFull) = not_full

-- ---- the functions: old and new stand behind the pointer before and after, and r is the result

abbrev pub ResetCode : List ℕ → List ℕ → ℕ → Type 0
ResetCode t t' r = Coded (ResetSays t t') reset_code r

abbrev pub AllocCode : List ℕ → List ℕ → ℕ → ℕ → ℕ → Type 0
AllocCode t t' old new r = Valued (AllocSays t t') alloc_code alloc_value old new r

abbrev pub RunCode : List ℕ → ℕ → ℕ → List ℕ → ℕ → ℕ → ℕ → Type 0
RunCode t size a t' old new r = Valued (RunSays t size a t') run_code run_value old new r

abbrev pub DeallocCode : List ℕ → ℕ → List ℕ → ℕ → Type 0
DeallocCode t k t' r = Coded (DeallocSays t k t') dealloc_code r

abbrev pub InsertCode : List ℕ → ℕ → ℕ → List ℕ → ℕ → Type 0
InsertCode t a b t' r = Coded (RangeSays t a b 1 t') range_code r

abbrev pub RemoveCode : List ℕ → ℕ → ℕ → List ℕ → ℕ → Type 0
RemoveCode t a b t' r = Coded (RangeSays t a b 0 t') range_code r
