-- An example of every answer of the functions with which a machine comes and goes. Assumes nothing.
use mathlib.Core.Path.{◌≡◌, refl, sym, ◌∙◌}
use mathlib.Core.List.{List, [], ◌∷◌}
use Prim.Native.Nat.{ℕ}
use native.Mathlib.Decide.{ℕ_discrete}
use native.Mathlib.Omega.{arith}
use Rattle.base.proofs.Choices.{by}
use Rattle.owners.specs.States.{State.Owned, state}
use Rattle.owners.proofs.States.{client_not_reserved}
use Rattle.contents.proofs.Cleaning.{client_not_free}
use Rattle.machine.specs.declared.Request.TheVariants.{AddZone, RemoveZone}
use Rattle.machine.specs.declared.Reason.TheVariants.{NoMachine, Present, NotPresent, NotEmpty}
use Rattle.machine.specs.declared.Answer.{Answer}
use Rattle.machine.specs.declared.Answer.TheVariants.{Done, No}
use Rattle.machine.specs.Step.{is_empty}
use Rattle.hv_state.specs.Memory.{Mem, plan_of, decode, Sound}
use Rattle.hv_state.specs.Serving.{Served, mem}
use Rattle.hv_zones.proofs.Laws as laws
use Rattle.hv_zones.proofs.Laws.{was_there, comes, goes, has_regions}
use Rattle.config_examples.proofs.Truck.{table}
use Rattle.bitmap_examples.proofs.Trees.{one}
use Rattle.allocator_examples.proofs.Memories.{nobody, first_free, behind_free}
use Rattle.machine_examples.proofs.Memories.{seven, no_eight, away, there, mapped, zone, is_zone, place_zero, is_here, regions_none, regions_one, has_none, drives_none, has_mapped, no_machine_lem, not_there, no_memories}
use Rattle.machine_examples.proofs.Only.{OneOf, Gives, at_first, at_next, asked, served}

-- nobody owns a frame
none_owned : (k c : ℕ) → state one nobody k ≡ Owned c → ⊥
none_owned k c e = go (ℕ_discrete k 0)
  where
    go : Dec (k ≡ 0) → ⊥
    go (yes q) = client_not_free c (sym e ∙ rw q first_free)
    go (no n) = client_not_reserved c (sym e ∙ behind_free k (omega (arith, n)))

-- ---- add_zone

pub add_zone_only : (b : Mem) (number : ℕ) (b' : Mem) (a : Answer) → Sound b → Served b number AddZone b' a → OneOf a (Done ∷ No NoMachine ∷ No Present ∷ [])
add_zone_only b number b' a s v = served b number AddZone b' a s v (asked (plan_of b) (decode b) number AddZone (at_next (at_first refl)) (λ m. at_next (at_next (at_first refl))) (λ m. at_first refl))

pub add_zone_done : (t o w : List ℕ) → Served (mem table away t o w) 7 AddZone (mem table there t o w) Done
add_zone_done t o w = comes table away t o w 7 zone (is_zone away refl) (rw (place_zero away refl) refl)

pub add_zone_no_no_machine : (t o w : List ℕ) → Served (mem table away t o w) 8 AddZone (mem table away t o w) (No NoMachine)
add_zone_no_no_machine t o w = laws.nobody table away t o w 8 no_eight.none

pub add_zone_no_present : (t o w : List ℕ) → Served (mem table there t o w) 7 AddZone (mem table there t o w) (No Present)
add_zone_no_present t o w = was_there table there t o w 7 zone (is_zone there refl) (rw (place_zero there refl) refl)

pub add_zone_corrupt : (t o w : List ℕ) → Served (mem [] [] t o w) 7 AddZone (mem [] [] t o w) Answer.Corrupt
add_zone_corrupt t o w = no_memories t o w AddZone

-- ---- remove_zone

pub remove_zone_only : (b : Mem) (number : ℕ) (b' : Mem) (a : Answer) → Sound b → Served b number RemoveZone b' a → OneOf a (Done ∷ No NoMachine ∷ No NotPresent ∷ No NotEmpty ∷ [])
remove_zone_only b number b' a s v =
    served b number RemoveZone b' a s v
    (asked (plan_of b) (decode b) number RemoveZone (at_next (at_first refl))
    (λ m. by (Gives _) (is_empty (plan_of b) (decode b) m) _ _ (λ e. at_first refl) (λ e. at_next (at_next (at_next (at_first refl)))))
    (λ m. at_next (at_next (at_first refl))))

pub remove_zone_done : (w : List ℕ) → Served (mem table there one nobody w) 7 RemoveZone (mem table away one nobody w) Done
remove_zone_done w =
    goes table there one nobody w 7 zone (is_zone there refl) (is_here there refl refl) 0 (sym seven)
    (rw (regions_none there 1 refl has_none, regions_none there 6 refl drives_none) refl) (λ k e. none_owned k 0 e)

pub remove_zone_no_no_machine : (w : List ℕ) → Served (mem table away one nobody w) 8 RemoveZone (mem table away one nobody w) (No NoMachine)
remove_zone_no_no_machine w = no_machine_lem away one nobody w RemoveZone (λ s m. refl)

pub remove_zone_no_not_present : (w : List ℕ) → Served (mem table away one nobody w) 7 RemoveZone (mem table away one nobody w) (No NotPresent)
remove_zone_no_not_present w = not_there one nobody w RemoveZone (λ s m. refl)

pub remove_zone_no_not_empty : (w : List ℕ) → Served (mem table mapped one nobody w) 7 RemoveZone (mem table mapped one nobody w) (No NotEmpty)
remove_zone_no_not_empty w =
    has_regions table mapped one nobody w 7 zone (is_zone mapped refl) (is_here mapped refl refl) (rw (regions_one mapped 1 refl has_mapped) refl)

pub remove_zone_corrupt : (w : List ℕ) → Served (mem [] [] one nobody w) 7 RemoveZone (mem [] [] one nobody w) Answer.Corrupt
remove_zone_corrupt w = no_memories one nobody w RemoveZone
