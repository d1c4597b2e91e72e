-- What the exported functions of the shared allocator say: that the allocator's own function could have answered something of which the
-- result is the code, and what stands behind the pointer its value. Assumes nothing.
use Rattle.std.specs.Prelude.{List, ℕ, ⊤, Result, Ok, Err}
use Rattle.codes.specs.Codes.{Coded, Valued, done, outside, corrupt, bad_base, no_client, below, not_at_frame, too_many, too_high, wrong}
use Rattle.reason_codes.specs.Reasons.{unfit_code, no_frame_code, no_run_code, not_freed_code, run_not_freed_code, run_not_freed_at, not_changed_code, not_changed_at}
use Rattle.claims.specs.declared.NoFrame.{NoFrame}
use Rattle.claims.specs.declared.NoRun.{NoRun}
use Rattle.claims.specs.declared.NotFreed.{NotFreed}
use Rattle.claims.specs.declared.RunNotFreed.{RunNotFreed}
use Rattle.claims.specs.declared.NotChanged.{NotChanged}
use Rattle.global_allocator.specs.declared.NoFid.{NoFid}
use Rattle.global_allocator.specs.declared.NoPaddr.{NoPaddr}
use Rattle.allocator_pool.specs.declared.FrameState.{FrameState}
use Rattle.allocator_pool.specs.declared.NoState.{NoState}
use Rattle.allocator_pool.specs.declared.BadClient.{BadClient}
use Rattle.allocator_pool.specs.declared.Unaccounted.{Unaccounted}
use Rattle.allocator_pool.specs.declared.NotStarted.{NotStarted}
use Rattle.allocator_pool.specs.declared.NotInserted.{NotInserted}
use Rattle.global_allocator.specs.Addresses.{FidSays, PaddrSays}
use Rattle.allocator_pool.specs.Looks.{OwnerSays, CountSays, CheckSays}
use Rattle.allocator_pool.specs.Changes.{InitSays, InsertSays, RemoveSays, ReleaseSays}
use Rattle.global_allocator.specs.Changes.{AllocSays, RunSays, DeallocSays, DeallocRunSays}

-- ---- the code and the value of each answer

abbrev pub fid_code : Result ℕ NoFid → ℕ
fid_code (Ok k) = done
fid_code (Err NoFid.BadBase) = bad_base
fid_code (Err NoFid.Below) = below
fid_code (Err NoFid.NotAtFrame) = not_at_frame

abbrev pub fid_value : Result ℕ NoFid → ℕ → ℕ
fid_value (Ok k) old = k
fid_value (Err why) old = old

abbrev pub paddr_code : Result ℕ NoPaddr → ℕ
paddr_code (Ok at) = done
paddr_code (Err NoPaddr.BadBase) = bad_base
paddr_code (Err NoPaddr.TooHigh) = too_high

abbrev pub paddr_value : Result ℕ NoPaddr → ℕ → ℕ
paddr_value (Ok at) old = at
paddr_value (Err why) old = old

abbrev pub owner_code : Result FrameState NoState → ℕ
owner_code (Ok s) = done
owner_code (Err NoState.Outside) = outside
owner_code (Err (NoState.Unfit why)) = unfit_code why

abbrev pub state_value : FrameState → ℕ
state_value FrameState.Free = 64
state_value FrameState.Reserved = 65
state_value (FrameState.Client c) = c

abbrev pub owner_value : Result FrameState NoState → ℕ → ℕ
owner_value (Ok s) old = state_value s
owner_value (Err why) old = old

abbrev pub count_code : Result ℕ BadClient → ℕ
count_code (Ok n) = done
count_code (Err BadClient.NoClient) = no_client
count_code (Err (BadClient.Unfit why)) = unfit_code why

abbrev pub count_value : Result ℕ BadClient → ℕ → ℕ
count_value (Ok n) old = n
count_value (Err why) old = old

abbrev pub check_code : Result ⊤ Unaccounted → ℕ
check_code (Ok _) = done
check_code (Err (Unaccounted.Lie p)) = corrupt
check_code (Err (Unaccounted.Wrong k)) = wrong
check_code (Err (Unaccounted.Unfit why)) = unfit_code why

abbrev pub check_value : Result ⊤ Unaccounted → ℕ → ℕ
check_value (Ok _) old = old
check_value (Err (Unaccounted.Lie p)) old = p
check_value (Err (Unaccounted.Wrong k)) old = k
check_value (Err (Unaccounted.Unfit why)) old = old

abbrev pub init_code : Result ⊤ NotStarted → ℕ
init_code (Ok _) = done
init_code (Err NotStarted.TooMany) = too_many
init_code (Err NotStarted.TooHigh) = too_high
init_code (Err (NotStarted.Unfit why)) = unfit_code why

abbrev pub alloc_code : Result ℕ NoFrame → ℕ
alloc_code (Ok at) = done
alloc_code (Err why) = no_frame_code why

abbrev pub alloc_value : Result ℕ NoFrame → ℕ → ℕ
alloc_value (Ok at) old = at
alloc_value (Err why) old = old

abbrev pub run_code : Result ℕ NoRun → ℕ
run_code (Ok at) = done
run_code (Err why) = no_run_code why

abbrev pub run_value : Result ℕ NoRun → ℕ → ℕ
run_value (Ok at) old = at
run_value (Err why) old = old

abbrev pub dealloc_code : Result ⊤ NotFreed → ℕ
dealloc_code (Ok _) = done
dealloc_code (Err why) = not_freed_code why

abbrev pub dealloc_run_code : Result ⊤ RunNotFreed → ℕ
dealloc_run_code (Ok _) = done
dealloc_run_code (Err why) = run_not_freed_code why

abbrev pub dealloc_run_value : Result ⊤ RunNotFreed → ℕ → ℕ
dealloc_run_value (Ok _) old = old
dealloc_run_value (Err why) old = run_not_freed_at why old

abbrev pub insert_code : Result ⊤ NotInserted → ℕ
insert_code (Ok _) = done
insert_code (Err NotInserted.TooHigh) = too_high
insert_code (Err (NotInserted.No why)) = not_changed_code why

abbrev pub insert_value : Result ⊤ NotInserted → ℕ → ℕ
insert_value (Ok _) old = old
insert_value (Err NotInserted.TooHigh) old = old
insert_value (Err (NotInserted.No why)) old = not_changed_at why old

abbrev pub remove_code : Result ⊤ NotChanged → ℕ
remove_code (Ok _) = done
remove_code (Err why) = not_changed_code why

abbrev pub remove_value : Result ⊤ NotChanged → ℕ → ℕ
remove_value (Ok _) old = old
remove_value (Err why) old = not_changed_at why old

abbrev pub release_code : Result ⊤ BadClient → ℕ
release_code (Ok _) = done
release_code (Err BadClient.NoClient) = no_client
release_code (Err (BadClient.Unfit why)) = unfit_code why

-- ---- what each function says

abbrev pub FidCode : ℕ → ℕ → ℕ → ℕ → ℕ → Type 0
FidCode base addr old new r = Valued (FidSays base addr) fid_code fid_value old new r

abbrev pub PaddrCode : ℕ → ℕ → ℕ → ℕ → ℕ → Type 0
PaddrCode base k old new r = Valued (PaddrSays base k) paddr_code paddr_value old new r

abbrev pub OwnerCode : ℕ → List ℕ → List ℕ → ℕ → ℕ → ℕ → ℕ → Type 0
OwnerCode base t o k old new r = Valued (OwnerSays base t o k) owner_code owner_value old new r

abbrev pub CountCode : ℕ → List ℕ → List ℕ → ℕ → ℕ → ℕ → ℕ → Type 0
CountCode base t o c old new r = Valued (CountSays base t o c) count_code count_value old new r

abbrev pub CheckCode : ℕ → List ℕ → List ℕ → ℕ → ℕ → ℕ → Type 0
CheckCode base t o old new r = Valued (CheckSays base t o) check_code check_value old new r

abbrev pub InitCode : ℕ → List ℕ → List ℕ → ℕ → List ℕ → List ℕ → ℕ → Type 0
InitCode base t o n t' o' r = Coded (InitSays base t o n t' o') init_code r

abbrev pub AllocCode : ℕ → List ℕ → List ℕ → ℕ → List ℕ → List ℕ → ℕ → ℕ → ℕ → Type 0
AllocCode base t o c t' o' old new r = Valued (AllocSays base t o c t' o') alloc_code alloc_value old new r

abbrev pub RunCode : ℕ → List ℕ → List ℕ → ℕ → ℕ → ℕ → List ℕ → List ℕ → ℕ → ℕ → ℕ → Type 0
RunCode base t o c size a t' o' old new r = Valued (RunSays base t o c size a t' o') run_code run_value old new r

abbrev pub DeallocCode : ℕ → List ℕ → List ℕ → ℕ → ℕ → List ℕ → List ℕ → ℕ → Type 0
DeallocCode base t o c addr t' o' r = Coded (DeallocSays base t o c addr t' o') dealloc_code r

abbrev pub DeallocRunCode : ℕ → List ℕ → List ℕ → ℕ → ℕ → ℕ → List ℕ → List ℕ → ℕ → ℕ → ℕ → Type 0
DeallocRunCode base t o c addr count t' o' old new r = Valued (DeallocRunSays base t o c addr count t' o') dealloc_run_code dealloc_run_value old new r

abbrev pub InsertCode : ℕ → List ℕ → List ℕ → ℕ → ℕ → List ℕ → List ℕ → ℕ → ℕ → ℕ → Type 0
InsertCode base t o a b t' o' old new r = Valued (InsertSays base t o a b t' o') insert_code insert_value old new r

abbrev pub RemoveCode : ℕ → List ℕ → List ℕ → ℕ → ℕ → List ℕ → List ℕ → ℕ → ℕ → ℕ → Type 0
RemoveCode base t o a b t' o' old new r = Valued (RemoveSays base t o a b t' o') remove_code remove_value old new r

abbrev pub ReleaseCode : ℕ → List ℕ → List ℕ → ℕ → List ℕ → List ℕ → ℕ → Type 0
ReleaseCode base t o c t' o' r = Coded (ReleaseSays base t o c t' o') release_code r
