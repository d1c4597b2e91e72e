-- An example of every answer of the functions for regions. Assumes nothing.
use mathlib.Core.Path.{refl}
use mathlib.Core.List.{List, [], ◌∷◌}
use Prim.Native.Nat.{ℕ}
use lib.Dec.{ltb}
use lib.ListN.{length}
use Rattle.base.proofs.Choices.{by}
use Rattle.address.specs.declared.Region.{Region}
use Rattle.set_model.specs.Sets.{same, meets, covers, any}
use Rattle.machine.specs.declared.Which.{Which}
use Rattle.machine.specs.declared.Which.TheVariants.{Processors, Devices}
use Rattle.machine.specs.declared.Request.TheVariants.{Insert, Remove, Translate}
use Rattle.machine.specs.declared.Reason.TheVariants.{NoMachine, NotPresent, NotGiven, Overlap, NoRoom, NotInSet, NotMapped}
use Rattle.machine.specs.declared.Answer.{Answer}
use Rattle.machine.specs.declared.Answer.TheVariants.{Done, Address, No}
use Rattle.machine.specs.Step.{givens}
use Rattle.hv_state.specs.Memory.{Mem, config_in, plan_of, decode, Sound}
use Rattle.hv_state.specs.Serving.{Served, mem}
use Rattle.hv_sets.proofs.Laws.{is_not_given}
use Rattle.hv_regions.proofs.Laws.{entered, kept_out, went, was_not, host_found, host_none}
use Rattle.hv_theorems.proofs.Theorems.{never_full}
use Rattle.set_claims.specs.declared.NotInserted.{NotInserted}
use Rattle.config_examples.proofs.Truck.{table, first, second}
use Rattle.machine_examples.proofs.Memories.{away, there, mapped, driven, no_machine_lem, not_there, no_memories}
use Rattle.machine_examples.proofs.Sets.{spot, is_spot, is_given, not_given_lem, mapped_in, mapped_out, mapped_overlaps, mapped_none, mapped_reaches, driven_in, driven_out, driven_overlaps, driven_none, driven_reaches_none}
use Rattle.machine_examples.proofs.Only.{OneOf, Gives, at_first, at_next, asked, served}

-- ---- what can be answered

module _ (b : Mem) (number : ℕ) (w : Which) (b' : Mem) (a : Answer) (s : Sound b) where
  inserts : (r : Region) → Served b number (Insert w r) b' a → OneOf a (Done ∷ No NoMachine ∷ No NotPresent ∷ No NotGiven ∷ No Overlap ∷ No NoRoom ∷ [])
  inserts r v =
      served b number (Insert w r) b' a s v
      (asked (plan_of b) (decode b) number (Insert w r) (at_next (at_first refl))
      (λ m. by (Gives _) (any (same r) (givens (config_in b) m w)) _ _
      (λ e. by (Gives _) (any (meets r) ((decode b).set m w)) _ _ (λ f. at_next (at_next (at_next (at_next (at_first refl)))))
      (λ f. by (Gives _) (ltb (length ((decode b).set m w)) (plan_of b).slots) _ _ (λ g. at_first refl) (λ g. at_next (at_next (at_next (at_next (at_next (at_first refl))))))))
      (λ e. at_next (at_next (at_next (at_first refl)))))
      (λ m. at_next (at_next (at_first refl))))

  removes : (r : Region) → Served b number (Remove w r) b' a → OneOf a (Done ∷ No NoMachine ∷ No NotPresent ∷ No NotInSet ∷ [])
  removes r v =
      served b number (Remove w r) b' a s v
      (asked (plan_of b) (decode b) number (Remove w r) (at_next (at_first refl))
      (λ m. by (Gives _) (any (same r) ((decode b).set m w)) _ _ (λ e. at_first refl) (λ e. at_next (at_next (at_next (at_first refl)))))
      (λ m. at_next (at_next (at_first refl))))

-- ---- insert_region

pub insert_region_only : (b : Mem) (number : ℕ) (r : Region) (b' : Mem) (a : Answer) → Sound b → Served b number (Insert Processors r) b' a
    → OneOf a (Done ∷ No NoMachine ∷ No NotPresent ∷ No NotGiven ∷ No Overlap ∷ No NoRoom ∷ [])
insert_region_only b number r b' a s = inserts b number Processors b' a s r

pub insert_region_no_no_room_never : (b : Mem) (number : ℕ) (r : Region) (b' : Mem) → Sound b → Served b number (Insert Processors r) b' (No NoRoom) → ⊥
insert_region_no_no_room_never b number r b' = never_full b b' number Processors r

pub insert_region_done : (t o w : List ℕ) → Served (mem table there t o w) 7 (Insert Processors first) (mem table mapped t o w) Done
insert_region_done t o w = entered table there 7 Processors (spot Processors) (is_spot there refl refl Processors) first t o w mapped 0 is_given mapped_in

pub insert_region_no_no_machine : (t o w : List ℕ) → Served (mem table there t o w) 8 (Insert Processors first) (mem table there t o w) (No NoMachine)
insert_region_no_no_machine t o w = no_machine_lem there t o w (Insert Processors first) (λ s m. refl)

pub insert_region_no_not_present : (t o w : List ℕ) → Served (mem table away t o w) 7 (Insert Processors first) (mem table away t o w) (No NotPresent)
insert_region_no_not_present t o w = not_there t o w (Insert Processors first) (λ s m. refl)

-- the other machine's
pub insert_region_no_not_given : (t o w : List ℕ) → Served (mem table there t o w) 7 (Insert Processors second) (mem table there t o w) (No NotGiven)
insert_region_no_not_given t o w = is_not_given table there 7 Processors (spot Processors) (is_spot there refl refl Processors) second t o w not_given_lem

-- once more
pub insert_region_no_overlap : (t o w : List ℕ) → Served (mem table mapped t o w) 7 (Insert Processors first) (mem table mapped t o w) (No Overlap)
insert_region_no_overlap t o w = kept_out table mapped 7 Processors (spot Processors) (is_spot mapped refl refl Processors) first t o w mapped 0 NotInserted.Overlap (No Overlap) is_given (refl, mapped_overlaps) refl

pub insert_region_corrupt : (t o w : List ℕ) → Served (mem [] [] t o w) 7 (Insert Processors first) (mem [] [] t o w) Answer.Corrupt
insert_region_corrupt t o w = no_memories t o w (Insert Processors first)

-- ---- remove_region

pub remove_region_only : (b : Mem) (number : ℕ) (r : Region) (b' : Mem) (a : Answer) → Sound b → Served b number (Remove Processors r) b' a
    → OneOf a (Done ∷ No NoMachine ∷ No NotPresent ∷ No NotInSet ∷ [])
remove_region_only b number r b' a s = removes b number Processors b' a s r

pub remove_region_done : (t o w : List ℕ) → Served (mem table mapped t o w) 7 (Remove Processors first) (mem table there t o w) Done
remove_region_done t o w = went table mapped 7 Processors (spot Processors) (is_spot mapped refl refl Processors) first t o w there mapped_out

pub remove_region_no_no_machine : (t o w : List ℕ) → Served (mem table there t o w) 8 (Remove Processors first) (mem table there t o w) (No NoMachine)
remove_region_no_no_machine t o w = no_machine_lem there t o w (Remove Processors first) (λ s m. refl)

pub remove_region_no_not_present : (t o w : List ℕ) → Served (mem table away t o w) 7 (Remove Processors first) (mem table away t o w) (No NotPresent)
remove_region_no_not_present t o w = not_there t o w (Remove Processors first) (λ s m. refl)

pub remove_region_no_not_in_set : (t o w : List ℕ) → Served (mem table there t o w) 7 (Remove Processors first) (mem table there t o w) (No NotInSet)
remove_region_no_not_in_set t o w = was_not table there 7 Processors (spot Processors) (is_spot there refl refl Processors) first t o w there (refl, mapped_none.0, mapped_none.1)

pub remove_region_corrupt : (t o w : List ℕ) → Served (mem [] [] t o w) 7 (Remove Processors first) (mem [] [] t o w) Answer.Corrupt
remove_region_corrupt t o w = no_memories t o w (Remove Processors first)

-- ---- insert_iommu_region

pub insert_iommu_region_only : (b : Mem) (number : ℕ) (r : Region) (b' : Mem) (a : Answer) → Sound b → Served b number (Insert Devices r) b' a
    → OneOf a (Done ∷ No NoMachine ∷ No NotPresent ∷ No NotGiven ∷ No Overlap ∷ No NoRoom ∷ [])
insert_iommu_region_only b number r b' a s = inserts b number Devices b' a s r

pub insert_iommu_region_no_no_room_never : (b : Mem) (number : ℕ) (r : Region) (b' : Mem) → Sound b → Served b number (Insert Devices r) b' (No NoRoom) → ⊥
insert_iommu_region_no_no_room_never b number r b' = never_full b b' number Devices r

pub insert_iommu_region_done : (t o w : List ℕ) → Served (mem table there t o w) 7 (Insert Devices first) (mem table driven t o w) Done
insert_iommu_region_done t o w = entered table there 7 Devices (spot Devices) (is_spot there refl refl Devices) first t o w driven 0 is_given driven_in

pub insert_iommu_region_no_no_machine : (t o w : List ℕ) → Served (mem table there t o w) 8 (Insert Devices first) (mem table there t o w) (No NoMachine)
insert_iommu_region_no_no_machine t o w = no_machine_lem there t o w (Insert Devices first) (λ s m. refl)

pub insert_iommu_region_no_not_present : (t o w : List ℕ) → Served (mem table away t o w) 7 (Insert Devices first) (mem table away t o w) (No NotPresent)
insert_iommu_region_no_not_present t o w = not_there t o w (Insert Devices first) (λ s m. refl)

-- the other machine's
pub insert_iommu_region_no_not_given : (t o w : List ℕ) → Served (mem table there t o w) 7 (Insert Devices second) (mem table there t o w) (No NotGiven)
insert_iommu_region_no_not_given t o w = is_not_given table there 7 Devices (spot Devices) (is_spot there refl refl Devices) second t o w not_given_lem

-- once more
pub insert_iommu_region_no_overlap : (t o w : List ℕ) → Served (mem table driven t o w) 7 (Insert Devices first) (mem table driven t o w) (No Overlap)
insert_iommu_region_no_overlap t o w = kept_out table driven 7 Devices (spot Devices) (is_spot driven refl refl Devices) first t o w driven 0 NotInserted.Overlap (No Overlap) is_given (refl, driven_overlaps) refl

pub insert_iommu_region_corrupt : (t o w : List ℕ) → Served (mem [] [] t o w) 7 (Insert Devices first) (mem [] [] t o w) Answer.Corrupt
insert_iommu_region_corrupt t o w = no_memories t o w (Insert Devices first)

-- ---- remove_iommu_region

pub remove_iommu_region_only : (b : Mem) (number : ℕ) (r : Region) (b' : Mem) (a : Answer) → Sound b → Served b number (Remove Devices r) b' a
    → OneOf a (Done ∷ No NoMachine ∷ No NotPresent ∷ No NotInSet ∷ [])
remove_iommu_region_only b number r b' a s = removes b number Devices b' a s r

pub remove_iommu_region_done : (t o w : List ℕ) → Served (mem table driven t o w) 7 (Remove Devices first) (mem table there t o w) Done
remove_iommu_region_done t o w = went table driven 7 Devices (spot Devices) (is_spot driven refl refl Devices) first t o w there driven_out

pub remove_iommu_region_no_no_machine : (t o w : List ℕ) → Served (mem table there t o w) 8 (Remove Devices first) (mem table there t o w) (No NoMachine)
remove_iommu_region_no_no_machine t o w = no_machine_lem there t o w (Remove Devices first) (λ s m. refl)

pub remove_iommu_region_no_not_present : (t o w : List ℕ) → Served (mem table away t o w) 7 (Remove Devices first) (mem table away t o w) (No NotPresent)
remove_iommu_region_no_not_present t o w = not_there t o w (Remove Devices first) (λ s m. refl)

pub remove_iommu_region_no_not_in_set : (t o w : List ℕ) → Served (mem table there t o w) 7 (Remove Devices first) (mem table there t o w) (No NotInSet)
remove_iommu_region_no_not_in_set t o w = was_not table there 7 Devices (spot Devices) (is_spot there refl refl Devices) first t o w there (refl, driven_none.0, driven_none.1)

pub remove_iommu_region_corrupt : (t o w : List ℕ) → Served (mem [] [] t o w) 7 (Remove Devices first) (mem [] [] t o w) Answer.Corrupt
remove_iommu_region_corrupt t o w = no_memories t o w (Remove Devices first)

-- ---- translate

pub translate_only : (b : Mem) (number : ℕ) (w : Which) (addr : ℕ) (b' : Mem) (a : Answer) → Sound b → Served b number (Translate w addr) b' a
    → OneOf a (Address 0 ∷ No NoMachine ∷ No NotPresent ∷ No NotMapped ∷ [])
translate_only b number w addr b' a s v =
    served b number (Translate w addr) b' a s v
    (asked (plan_of b) (decode b) number (Translate w addr) (at_next (at_first refl))
    (λ m. by (Gives _) (any (covers addr) ((decode b).set m w)) _ _ (λ e. at_first refl) (λ e. at_next (at_next (at_next (at_first refl)))))
    (λ m. at_next (at_next (at_first refl))))

pub translate_address : (t o w : List ℕ) → Served (mem table mapped t o w) 7 (Translate Processors 5) (mem table mapped t o w) (Address 4101)
translate_address t o w = host_found table mapped 7 Processors (spot Processors) (is_spot mapped refl refl Processors) t o w 5 4101 mapped_reaches

pub translate_no_no_machine : (t o w : List ℕ) → Served (mem table there t o w) 8 (Translate Processors 5) (mem table there t o w) (No NoMachine)
translate_no_no_machine t o w = no_machine_lem there t o w (Translate Processors 5) (λ s m. refl)

pub translate_no_not_present : (t o w : List ℕ) → Served (mem table away t o w) 7 (Translate Processors 5) (mem table away t o w) (No NotPresent)
translate_no_not_present t o w = not_there t o w (Translate Processors 5) (λ s m. refl)

pub translate_no_not_mapped : (t o w : List ℕ) → Served (mem table there t o w) 7 (Translate Devices 5) (mem table there t o w) (No NotMapped)
translate_no_not_mapped t o w = host_none table there 7 Devices (spot Devices) (is_spot there refl refl Devices) t o w 5 driven_reaches_none

pub translate_corrupt : (t o w : List ℕ) → Served (mem [] [] t o w) 7 (Translate Processors 5) (mem [] [] t o w) Answer.Corrupt
translate_corrupt t o w = no_memories t o w (Translate Processors 5)
