-- The answers to a machine as numbers, and a set of regions by its number. Assumes nothing.
use Rattle.std.specs.Prelude.{ℕ, zero, suc}
use Rattle.codes.specs.Codes.{done, outside, empty, no_room, not_taken, corrupt, below, not_at_frame, not_yours, no_machine}
use Rattle.codes.specs.Codes.{present, not_present, not_empty, not_given, overlap, not_in_set, not_mapped}
use Rattle.machine.specs.declared.Answer.{Answer}
use Rattle.machine.specs.declared.Reason.{Reason}
use Rattle.machine.specs.declared.Which.{Which}

-- the code of a reason
abbrev pub reason_code : Reason → ℕ
reason_code Reason.NoMachine = no_machine
reason_code Reason.Present = present
reason_code Reason.NotPresent = not_present
reason_code Reason.NotEmpty = not_empty
reason_code Reason.NotGiven = not_given
reason_code Reason.Overlap = overlap
reason_code Reason.NoRoom = no_room
reason_code Reason.NotInSet = not_in_set
reason_code Reason.NotMapped = not_mapped
reason_code Reason.NoFrames = empty
reason_code Reason.Below = below
reason_code Reason.NotAtFrame = not_at_frame
reason_code Reason.Outside = outside
reason_code Reason.NotTaken = not_taken
reason_code Reason.NotYours = not_yours

-- the code of an answer: 0 where the request is not refused
abbrev pub answer_code : Answer → ℕ
answer_code Answer.Done = done
answer_code (Answer.Address at) = done
answer_code (Answer.No why) = reason_code why
answer_code Answer.Corrupt = corrupt

-- the address of an answer, or what stood there where it has none
abbrev pub address_in : Answer → ℕ → ℕ
address_in Answer.Done old = old
address_in (Answer.Address at) old = at
address_in (Answer.No why) old = old
address_in Answer.Corrupt old = old

-- the set with a number: 0 the processors', 1 the devices'. Every other number reads as the devices'
unfoldable pub which_of : ℕ → Which
which_of zero = Which.Processors
which_of (suc n) = Which.Devices
