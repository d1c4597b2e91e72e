-- What the exported functions of the shared allocator with contents say: that the allocator's own function could have answered something of
-- which the result is the code, and what stands behind the pointer its value. Assumes nothing.
use Rattle.std.specs.Prelude.{List, ℕ, ⊤, Result, Ok, Err}
use Rattle.codes.specs.Codes.{Coded, Valued, done, corrupt, no_client, too_high, wrong, unbacked, beyond, dirty}
use Rattle.reason_codes.specs.Reasons.{unfit_code, no_frame_code, no_run_code, not_freed_code, run_not_freed_code, run_not_freed_at, not_changed_code, not_changed_at}
use Rattle.claims.specs.declared.NoFrame.{NoFrame}
use Rattle.claims.specs.declared.NoRun.{NoRun}
use Rattle.claims.specs.declared.NotFreed.{NotFreed}
use Rattle.claims.specs.declared.RunNotFreed.{RunNotFreed}
use Rattle.frames.specs.declared.NotGiven.{NotGiven}
use Rattle.frames.specs.declared.NotReturned.{NotReturned}
use Rattle.frames_pool.specs.declared.NotBegun.{NotBegun}
use Rattle.frames_pool.specs.declared.NotOpened.{NotOpened}
use Rattle.frames_pool.specs.declared.NotClosed.{NotClosed}
use Rattle.frames_pool.specs.declared.NotLeft.{NotLeft}
use Rattle.frames_pool.specs.declared.Unclean.{Unclean}
use Rattle.frames_pool.specs.Pool.{InitSays, InsertSays, RemoveSays, ReleaseSays, CheckSays}
use Rattle.frames.specs.Frames.{AllocSays, RunSays, DeallocSays, DeallocRunSays}

-- ---- the code and the value of each answer

abbrev pub init_code : Result ⊤ NotBegun → ℕ
init_code (Ok _) = done
init_code (Err NotBegun.Unbacked) = unbacked
init_code (Err NotBegun.TooHigh) = too_high
init_code (Err (NotBegun.Unfit why)) = unfit_code why

abbrev pub alloc_code : Result ℕ (NotGiven NoFrame) → ℕ
alloc_code (Ok at) = done
alloc_code (Err NotGiven.Unbacked) = unbacked
alloc_code (Err (NotGiven.No why)) = no_frame_code why

abbrev pub alloc_value : Result ℕ (NotGiven NoFrame) → ℕ → ℕ
alloc_value (Ok at) old = at
alloc_value (Err e) old = old

abbrev pub run_code : Result ℕ (NotGiven NoRun) → ℕ
run_code (Ok at) = done
run_code (Err NotGiven.Unbacked) = unbacked
run_code (Err (NotGiven.No why)) = no_run_code why

abbrev pub run_value : Result ℕ (NotGiven NoRun) → ℕ → ℕ
run_value (Ok at) old = at
run_value (Err e) old = old

abbrev pub dealloc_code : Result ⊤ (NotReturned NotFreed) → ℕ
dealloc_code (Ok _) = done
dealloc_code (Err NotReturned.Unbacked) = unbacked
dealloc_code (Err NotReturned.Corrupt) = corrupt
dealloc_code (Err (NotReturned.No why)) = not_freed_code why

abbrev pub dealloc_run_code : Result ⊤ (NotReturned RunNotFreed) → ℕ
dealloc_run_code (Ok _) = done
dealloc_run_code (Err NotReturned.Unbacked) = unbacked
dealloc_run_code (Err NotReturned.Corrupt) = corrupt
dealloc_run_code (Err (NotReturned.No why)) = run_not_freed_code why

abbrev pub dealloc_run_value : Result ⊤ (NotReturned RunNotFreed) → ℕ → ℕ
dealloc_run_value (Ok _) old = old
dealloc_run_value (Err NotReturned.Unbacked) old = old
dealloc_run_value (Err NotReturned.Corrupt) old = old
dealloc_run_value (Err (NotReturned.No why)) old = run_not_freed_at why old

abbrev pub insert_code : Result ⊤ NotOpened → ℕ
insert_code (Ok _) = done
insert_code (Err NotOpened.Unbacked) = unbacked
insert_code (Err NotOpened.TooHigh) = too_high
insert_code (Err NotOpened.Beyond) = beyond
insert_code (Err (NotOpened.No why)) = not_changed_code why

abbrev pub insert_value : Result ⊤ NotOpened → ℕ → ℕ
insert_value (Ok _) old = old
insert_value (Err NotOpened.Unbacked) old = old
insert_value (Err NotOpened.TooHigh) old = old
insert_value (Err NotOpened.Beyond) old = old
insert_value (Err (NotOpened.No why)) old = not_changed_at why old

abbrev pub remove_code : Result ⊤ NotClosed → ℕ
remove_code (Ok _) = done
remove_code (Err NotClosed.Unbacked) = unbacked
remove_code (Err (NotClosed.No why)) = not_changed_code why

abbrev pub remove_value : Result ⊤ NotClosed → ℕ → ℕ
remove_value (Ok _) old = old
remove_value (Err NotClosed.Unbacked) old = old
remove_value (Err (NotClosed.No why)) old = not_changed_at why old

abbrev pub release_code : Result ⊤ NotLeft → ℕ
release_code (Ok _) = done
release_code (Err NotLeft.Unbacked) = unbacked
release_code (Err NotLeft.Corrupt) = corrupt
release_code (Err NotLeft.NoClient) = no_client
release_code (Err (NotLeft.Unfit why)) = unfit_code why

abbrev pub check_code : Result ⊤ Unclean → ℕ
check_code (Ok _) = done
check_code (Err Unclean.Unbacked) = unbacked
check_code (Err (Unclean.Lie p)) = corrupt
check_code (Err (Unclean.Wrong k)) = wrong
check_code (Err (Unclean.Beyond k)) = beyond
check_code (Err (Unclean.Dirty k)) = dirty
check_code (Err (Unclean.Unfit why)) = unfit_code why

abbrev pub check_value : Result ⊤ Unclean → ℕ → ℕ
check_value (Ok _) old = old
check_value (Err Unclean.Unbacked) old = old
check_value (Err (Unclean.Lie p)) old = p
check_value (Err (Unclean.Wrong k)) old = k
check_value (Err (Unclean.Beyond k)) old = k
check_value (Err (Unclean.Dirty k)) old = k
check_value (Err (Unclean.Unfit why)) old = old

-- ---- what each function says

abbrev pub InitCode : ℕ → List ℕ → List ℕ → List ℕ → List ℕ → List ℕ → List ℕ → ℕ → Type 0
InitCode base t o w t' o' w' r = Coded (InitSays base t o w t' o' w') init_code r

abbrev pub AllocCode : ℕ → List ℕ → List ℕ → List ℕ → ℕ → List ℕ → List ℕ → ℕ → ℕ → ℕ → Type 0
AllocCode base t o w c t' o' old new r = Valued (AllocSays base t o w c t' o') alloc_code alloc_value old new r

abbrev pub RunCode : ℕ → List ℕ → List ℕ → List ℕ → ℕ → ℕ → ℕ → List ℕ → List ℕ → ℕ → ℕ → ℕ → Type 0
RunCode base t o w c size a t' o' old new r = Valued (RunSays base t o w c size a t' o') run_code run_value old new r

abbrev pub DeallocCode : ℕ → List ℕ → List ℕ → List ℕ → ℕ → ℕ → List ℕ → List ℕ → List ℕ → ℕ → Type 0
DeallocCode base t o w c addr t' o' w' r = Coded (DeallocSays base t o w c addr t' o' w') dealloc_code r

abbrev pub DeallocRunCode : ℕ → List ℕ → List ℕ → List ℕ → ℕ → ℕ → ℕ → List ℕ → List ℕ → List ℕ → ℕ → ℕ → ℕ → Type 0
DeallocRunCode base t o w c addr count t' o' w' old new r = Valued (DeallocRunSays base t o w c addr count t' o' w') dealloc_run_code dealloc_run_value old new r

abbrev pub InsertCode : ℕ → List ℕ → List ℕ → List ℕ → ℕ → ℕ → List ℕ → List ℕ → List ℕ → ℕ → ℕ → ℕ → Type 0
InsertCode base t o w a b t' o' w' old new r = Valued (InsertSays base t o w a b t' o' w') insert_code insert_value old new r

abbrev pub RemoveCode : ℕ → List ℕ → List ℕ → List ℕ → ℕ → ℕ → List ℕ → List ℕ → ℕ → ℕ → ℕ → Type 0
RemoveCode base t o w a b t' o' old new r = Valued (RemoveSays base t o w a b t' o') remove_code remove_value old new r

abbrev pub ReleaseCode : ℕ → List ℕ → List ℕ → List ℕ → ℕ → List ℕ → List ℕ → List ℕ → ℕ → Type 0
ReleaseCode base t o w c t' o' w' r = Coded (ReleaseSays base t o w c t' o' w') release_code r

abbrev pub CheckCode : ℕ → List ℕ → List ℕ → List ℕ → ℕ → ℕ → ℕ → Type 0
CheckCode base t o w old new r = Valued (CheckSays base t o w) check_code check_value old new r
