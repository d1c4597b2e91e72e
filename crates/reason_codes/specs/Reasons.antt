-- The code of each reason of the shared allocator, and the frame that it names, or what stood there where it names none. Assumes nothing.
use Rattle.std.specs.Prelude.{ℕ}
use Rattle.codes.specs.Codes.{not_full, outside, empty, reversed, no_room, not_taken, corrupt, unmatched, bad_base, no_client, below, not_at_frame, not_yours, taken}
use Rattle.claims.specs.declared.Unfit.{Unfit}
use Rattle.claims.specs.declared.NoFrame.{NoFrame}
use Rattle.claims.specs.declared.NoRun.{NoRun}
use Rattle.claims.specs.declared.NotFreed.{NotFreed}
use Rattle.claims.specs.declared.RunNotFreed.{RunNotFreed}
use Rattle.claims.specs.declared.NotChanged.{NotChanged}

abbrev pub unfit_code : Unfit → ℕ
unfit_code Unfit.NotFull = not_full
unfit_code Unfit.Unmatched = unmatched
unfit_code Unfit.BadBase = bad_base

abbrev pub no_frame_code : NoFrame → ℕ
no_frame_code (NoFrame.Unfit why) = unfit_code why
no_frame_code NoFrame.NoClient = no_client
no_frame_code NoFrame.NoRoom = no_room
no_frame_code NoFrame.Corrupt = corrupt

abbrev pub no_run_code : NoRun → ℕ
no_run_code (NoRun.Unfit why) = unfit_code why
no_run_code NoRun.NoClient = no_client
no_run_code NoRun.Empty = empty
no_run_code NoRun.NoRoom = no_room
no_run_code NoRun.Corrupt = corrupt

abbrev pub not_freed_code : NotFreed → ℕ
not_freed_code (NotFreed.Unfit why) = unfit_code why
not_freed_code NotFreed.NoClient = no_client
not_freed_code NotFreed.Below = below
not_freed_code NotFreed.NotAtFrame = not_at_frame
not_freed_code NotFreed.Outside = outside
not_freed_code NotFreed.NotTaken = not_taken
not_freed_code NotFreed.NotYours = not_yours

abbrev pub run_not_freed_code : RunNotFreed → ℕ
run_not_freed_code (RunNotFreed.Unfit why) = unfit_code why
run_not_freed_code RunNotFreed.NoClient = no_client
run_not_freed_code RunNotFreed.Below = below
run_not_freed_code RunNotFreed.NotAtFrame = not_at_frame
run_not_freed_code RunNotFreed.Empty = empty
run_not_freed_code RunNotFreed.Outside = outside
run_not_freed_code (RunNotFreed.NotTaken k) = not_taken
run_not_freed_code (RunNotFreed.NotYours k) = not_yours

abbrev pub run_not_freed_at : RunNotFreed → ℕ → ℕ
run_not_freed_at (RunNotFreed.Unfit why) old = old
run_not_freed_at RunNotFreed.NoClient old = old
run_not_freed_at RunNotFreed.Below old = old
run_not_freed_at RunNotFreed.NotAtFrame old = old
run_not_freed_at RunNotFreed.Empty old = old
run_not_freed_at RunNotFreed.Outside old = old
run_not_freed_at (RunNotFreed.NotTaken k) old = k
run_not_freed_at (RunNotFreed.NotYours k) old = k

abbrev pub not_changed_code : NotChanged → ℕ
not_changed_code (NotChanged.Unfit why) = unfit_code why
not_changed_code NotChanged.Empty = empty
not_changed_code NotChanged.Reversed = reversed
not_changed_code NotChanged.Outside = outside
not_changed_code (NotChanged.Taken k) = taken

abbrev pub not_changed_at : NotChanged → ℕ → ℕ
not_changed_at (NotChanged.Unfit why) old = old
not_changed_at NotChanged.Empty old = old
not_changed_at NotChanged.Reversed old = old
not_changed_at NotChanged.Outside old = old
not_changed_at (NotChanged.Taken k) old = k
