-- An example of every answer of the function with which a machine is taken away whole. Assumes nothing.
use mathlib.Core.Path.{◌≡◌, refl}
use mathlib.Core.List.{[], ◌∷◌}
use Prim.Native.Nat.{ℕ, zero, suc}
use lib.Dec.{lit<, lit≤}
use lib.ListN.{get_or}
use Rattle.base.specs.Ranges.{Outside, Emptied}
use Rattle.base.proofs.Ranges.{zero_word}
use Rattle.bitmap_examples.proofs.Trees.{one, taken}
use Rattle.allocator_examples.proofs.Memories.{nobody, held}
use Rattle.frames_examples.proofs.Words.{zeros, dirty}
use Rattle.frames_examples.proofs.FramesPool.{release_all_ok}
use Rattle.config_examples.proofs.Truck.{table}
use Rattle.machine.specs.declared.Request.TheVariants.{RemoveZoneWhole}
use Rattle.machine.specs.declared.Reason.TheVariants.{NoMachine, NotPresent}
use Rattle.machine.specs.declared.Answer.{Answer}
use Rattle.machine.specs.declared.Answer.TheVariants.{Done, No}
use Rattle.hv_state.specs.Memory.{Mem, plan_of, decode, Sound}
use Rattle.hv_state.specs.Serving.{Served, mem}
use Rattle.hv_whole.proofs.Laws.{whole_served}
use Rattle.machine_examples.proofs.Memories.{away, there, client, is_client, no_machine_lem, not_there, no_memories}
use Rattle.machine_examples.proofs.HvFrames.{busy}
use Rattle.machine_examples.proofs.Only.{OneOf, at_first, at_next, asked, served}

pub remove_zone_whole_only : (b : Mem) (number : ℕ) (b' : Mem) (a : Answer) → Sound b → Served b number RemoveZoneWhole b' a
    → OneOf a (Done ∷ No NoMachine ∷ No NotPresent ∷ [])
remove_zone_whole_only b number b' a s v = served b number RemoveZoneWhole b' a s v (asked (plan_of b) (decode b) number RemoveZoneWhole (at_next (at_first refl)) (λ m. at_first refl) (λ m. at_next (at_next (at_first refl))))

-- every word of machine 7 becomes 0, and no other changes
emptied : Emptied there 0 11 away
emptied = record { long = refl; inside = λ j l h. zero_word 22 j; outside = others }
  where
    others : (j : ℕ) → Outside 0 11 j → get_or away j 0 ≡ get_or there j 0
    others zero o = absurd (o (lit≤ tt) (lit< tt))
    others (suc j) o = refl

-- with its frame, to which it wrote
pub remove_zone_whole_done : Served busy 7 RemoveZoneWhole (mem table away one nobody zeros) Done
remove_zone_whole_done = whole_served table there taken held dirty 7 client (is_client there refl refl) one nobody zeros away release_all_ok emptied

pub remove_zone_whole_no_no_machine : Served busy 8 RemoveZoneWhole busy (No NoMachine)
remove_zone_whole_no_no_machine = no_machine_lem there taken held dirty RemoveZoneWhole (λ s m. refl)

pub remove_zone_whole_no_not_present : Served (mem table away one nobody zeros) 7 RemoveZoneWhole (mem table away one nobody zeros) (No NotPresent)
remove_zone_whole_no_not_present = not_there one nobody zeros RemoveZoneWhole (λ s m. refl)

pub remove_zone_whole_corrupt : Served (mem [] [] one nobody zeros) 7 RemoveZoneWhole (mem [] [] one nobody zeros) Answer.Corrupt
remove_zone_whole_corrupt = no_memories one nobody zeros RemoveZoneWhole
