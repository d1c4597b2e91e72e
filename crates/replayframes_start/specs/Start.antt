-- What the exported start and check say: that the start or the check answered something of which the result is the code. Assumes nothing.
use Rattle.std.specs.Prelude.{List, ℕ, Result, Ok, Err}
use Rattle.codes.specs.Codes.{Coded, done, corrupt, no_table, unbacked, bad_zones, few_slots, pool_too_large, frames_too_many}
use Rattle.reason_codes.specs.Reasons.{unfit_code}
use Rattle.config_codes.specs.Codes.{reason_code}
use Rattle.hv_state.specs.Memory.{Mem}
use Rattle.hv_start.specs.declared.BadZones.{BadZones}
use Rattle.hv_start.specs.declared.BadFrames.{BadFrames}
use Rattle.hv_start.specs.declared.NotStarted.{NotStarted}
use Rattle.hv_start.specs.Starting.{StartSays}
use Rattle.hv_check.specs.declared.Fault.{Fault}
use Rattle.hv_check.specs.declared.NotSound.{NotSound}
use Rattle.hv_check.specs.Checking.{CheckSays}

-- why the machines' words are not those of a configuration
abbrev pub zones_code : BadZones → ℕ
zones_code BadZones.Wrong = bad_zones
zones_code (BadZones.FewSlots m) = few_slots

-- why the tree, the owners and the frames' words are not
abbrev pub frames_code : BadFrames → ℕ
frames_code (BadFrames.Unfit why) = unfit_code why
frames_code BadFrames.Unbacked = unbacked
frames_code BadFrames.FewFrames = pool_too_large
frames_code BadFrames.FewPages = frames_too_many

-- why nothing was started
abbrev pub not_started_code : NotStarted → ℕ
not_started_code NotStarted.NoTable = no_table
not_started_code (NotStarted.Config why) = reason_code why
not_started_code (NotStarted.Zones why) = zones_code why
not_started_code (NotStarted.Frames why) = frames_code why

-- the code of what a start answers
abbrev pub started_code : Result Unit NotStarted → ℕ
started_code (Ok _) = done
started_code (Err why) = not_started_code why

-- r is the code of an answer: s are the bytes, the memories were b and are b'
abbrev pub StartCode : List ℕ → Mem → Mem → ℕ → Type 0
StartCode s b b' r = Coded (StartSays s b b') started_code r

-- why a machine's words are not right
abbrev pub fault_code : Fault → ℕ
fault_code Fault.FewSlots = few_slots
fault_code Fault.Presence = corrupt
fault_code Fault.Processors = corrupt
fault_code Fault.Devices = corrupt

-- why the memories are not sound
abbrev pub not_sound_code : NotSound → ℕ
not_sound_code NotSound.Table = corrupt
not_sound_code NotSound.Zones = bad_zones
not_sound_code (NotSound.Machine m why) = fault_code why
not_sound_code NotSound.Frames = corrupt
not_sound_code NotSound.FewFrames = pool_too_large
not_sound_code NotSound.FewPages = frames_too_many
not_sound_code (NotSound.Frame k) = corrupt

-- the code of what a check says: 0 for sound memories alone
abbrev pub checked_code : Result Unit NotSound → ℕ
checked_code (Ok _) = done
checked_code (Err why) = not_sound_code why

-- r is the code of what is so of the memories
abbrev pub CheckCode : Mem → ℕ → Type 0
CheckCode b r = Coded (CheckSays b) checked_code r
