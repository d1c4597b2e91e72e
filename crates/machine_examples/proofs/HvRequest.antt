-- An example of every answer to a request as a value: those of the functions for each request. Assumes nothing.
use mathlib.Core.List.{[]}
use Rattle.bitmap_examples.proofs.Trees.{one, taken}
use Rattle.allocator_examples.proofs.Memories.{nobody, held}
use Rattle.frames_examples.proofs.Words.{zeros}
use Rattle.config_examples.proofs.Truck.{table, first, second}
use Rattle.machine.specs.declared.Which.TheVariants.{Processors, Devices}
use Rattle.machine.specs.declared.Request.TheVariants.{AddZone, RemoveZone, Insert, Remove, Translate, Alloc, AllocContiguous, Dealloc}
use Rattle.machine.specs.declared.Reason.TheVariants.{NoMachine, Present, NotPresent, NotEmpty, NotGiven, Overlap, NoRoom, NotInSet, NotMapped, NoFrames, Below, NotAtFrame, Outside, NotTaken, NotYours}
use Rattle.machine.specs.declared.Answer.{Answer}
use Rattle.machine.specs.declared.Answer.TheVariants.{Done, Address, No}
use Rattle.hv_state.specs.Memory.{Mem}
use Rattle.hv_state.specs.Serving.{Served, mem}
use Rattle.machine_examples.proofs.Memories.{away, there, mapped}
use Rattle.machine_examples.proofs.HvZones as zones
use Rattle.machine_examples.proofs.HvRegions as regions
use Rattle.machine_examples.proofs.HvFrames as frames
use Rattle.machine_examples.proofs.HvFrames.{idle, busy}

-- no machine is there; and machine 7 is, with its region
abbrev pub started : Mem
started = mem table away one nobody zeros

abbrev pub working : Mem
working = mem table mapped one nobody zeros

pub serve_request_done : Served started 7 AddZone idle Done
serve_request_done = zones.add_zone_done one nobody zeros

pub serve_request_address : Served idle 7 Alloc (mem table there taken held zeros) (Address 65536)
serve_request_address = frames.alloc_address

pub serve_request_no_no_machine : Served started 8 AddZone started (No NoMachine)
serve_request_no_no_machine = zones.add_zone_no_no_machine one nobody zeros

pub serve_request_no_present : Served idle 7 AddZone idle (No Present)
serve_request_no_present = zones.add_zone_no_present one nobody zeros

pub serve_request_no_not_present : Served started 7 RemoveZone started (No NotPresent)
serve_request_no_not_present = zones.remove_zone_no_not_present zeros

pub serve_request_no_not_empty : Served working 7 RemoveZone working (No NotEmpty)
serve_request_no_not_empty = zones.remove_zone_no_not_empty zeros

pub serve_request_no_not_given : Served idle 7 (Insert Processors second) idle (No NotGiven)
serve_request_no_not_given = regions.insert_region_no_not_given one nobody zeros

pub serve_request_no_overlap : Served working 7 (Insert Processors first) working (No Overlap)
serve_request_no_overlap = regions.insert_region_no_overlap one nobody zeros

pub serve_request_no_no_room : Served busy 7 Alloc busy (No NoRoom)
serve_request_no_no_room = frames.alloc_no_no_room

pub serve_request_no_not_in_set : Served idle 7 (Remove Processors first) idle (No NotInSet)
serve_request_no_not_in_set = regions.remove_region_no_not_in_set one nobody zeros

pub serve_request_no_not_mapped : Served idle 7 (Translate Devices 5) idle (No NotMapped)
serve_request_no_not_mapped = regions.translate_no_not_mapped one nobody zeros

pub serve_request_no_no_frames : Served idle 7 (AllocContiguous 0 0) idle (No NoFrames)
serve_request_no_no_frames = frames.alloc_contiguous_no_no_frames

pub serve_request_no_below : Served busy 7 (Dealloc 0) busy (No Below)
serve_request_no_below = frames.dealloc_no_below

pub serve_request_no_not_at_frame : Served busy 7 (Dealloc 65537) busy (No NotAtFrame)
serve_request_no_not_at_frame = frames.dealloc_no_not_at_frame

pub serve_request_no_outside : Served busy 7 (Dealloc 131072) busy (No Outside)
serve_request_no_outside = frames.dealloc_no_outside

pub serve_request_no_not_taken : Served idle 7 (Dealloc 65536) idle (No NotTaken)
serve_request_no_not_taken = frames.dealloc_no_not_taken

pub serve_request_no_not_yours : Served busy 7 (Dealloc 69632) busy (No NotYours)
serve_request_no_not_yours = frames.dealloc_no_not_yours

pub serve_request_corrupt : Served (mem [] [] one nobody zeros) 7 Alloc (mem [] [] one nobody zeros) Answer.Corrupt
serve_request_corrupt = frames.alloc_corrupt
