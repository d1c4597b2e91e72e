-- The memories of the machines' examples are sound: they follow from the start by what machine 7 asks and writes. Assumes nothing.
use mathlib.Core.Path.{◌≡◌, refl, subst}
use mathlib.Core.Bool.{true}
use mathlib.Core.List.{[], ◌∷◌}
use Prim.Native.Nat.{ℕ}
use Rattle.bitmap_examples.proofs.Trees.{one, taken}
use Rattle.allocator_examples.proofs.Memories.{nobody, held, first_owned}
use Rattle.frames_examples.proofs.Words.{zeros}
use Rattle.config_examples.proofs.Truck.{table}
use Rattle.hv_state.specs.Memory.{Mem, present_in, Sound}
use Rattle.config_view.specs.Table.{table_config}
use Rattle.machine.specs.Run.{Event}
use Rattle.hv_theorems.specs.Happening.{Becomes}
use Rattle.hv_theorems.proofs.Theorems.{reached}
use Rattle.hv_state.specs.Serving.{mem}
use Rattle.machine_examples.proofs.Memories.{there, driven, seven, is_here}
use Rattle.machine_examples.proofs.HvZones as zones
use Rattle.machine_examples.proofs.HvRegions as regions
use Rattle.machine_examples.proofs.HvFrames as frames
use Rattle.machine_examples.proofs.HvFrames.{idle, busy}
use Rattle.machine_examples.proofs.HvRequest.{started, working}
use Rattle.start_examples.proofs.HvStart.{start_ok}

pub started_sound : Sound started
started_sound = start_ok.sound

pub idle_sound : Sound idle
idle_sound = (zones.add_zone_done one nobody zeros).sound started_sound

pub working_sound : Sound working
working_sound = (regions.insert_region_done one nobody zeros).sound idle_sound

pub driven_sound : Sound (mem table driven one nobody zeros)
driven_sound = (regions.insert_iommu_region_done one nobody zeros).sound idle_sound

abbrev owning : Mem
owning = mem table there taken held zeros

pub owning_sound : Sound owning
owning_sound = (frames.alloc_address).sound idle_sound

-- machine 7 wrote to its frame
pub busy_sound : Sound busy
busy_sound = (reached owning (Event.Writes 0 0 1 ∷ []) busy (Becomes.Writes owning busy [] 0 0 1 here first_owned (Becomes.Stays busy)) owning_sound).sound
  where
    here : present_in there (table_config table).machines 0 ≡ true
    here = subst (λ (m : ℕ). present_in there (table_config table).machines m ≡ true) seven (is_here there refl refl).present
