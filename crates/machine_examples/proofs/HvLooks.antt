-- An example of every answer of the functions that look at the machines' words. Assumes nothing.
use mathlib.Core.Path.{◌≡◌, refl, ◌∙◌}
use mathlib.Core.List.{List, [], ◌∷◌}
use Prim.Native.Nat.{ℕ}
use native.Mathlib.Omega.{arith}
use lib.Dec.{lit<, lit≤}
use lib.ListN.{length}
use Rattle.std.proofs.Common.{true, false, Ok, Err}
use Rattle.config_view.specs.Table.{table_config}
use Rattle.config_examples.proofs.Truck.{table, first, long, machines_is}
use Rattle.machine.specs.declared.Which.TheVariants.{Processors}
use Rattle.zones.specs.Layout.{Shaped}
use Rattle.hv_state.proofs.Zones.{set_is}
use Rattle.hv_looks.specs.declared.NotSeen.{NotSeen}
use Rattle.hv_looks.specs.declared.NoRegion.{NoRegion}
use Rattle.hv_looks.specs.Looks.{Known, Unknown, Corrupted, HasSet, PresenceSays, SetSizeSays, SetRegionSays, regions_of}
use Rattle.machine_examples.proofs.Memories.{seven_below, no_eight, away, there, mapped, slots_one, place_zero, is_here, is_away, is_zone, regions_one, has_mapped}

-- ---- what the looks share

known : (z : List ℕ) → length z ≡ 22 → Known table z 7
known z l = record { long = long; machine = (is_zone z l).machine; shaped = (is_zone z l).shaped }

unknown : Unknown table 8
unknown = (long, no_eight)

no_words : length {A = ℕ} [] ≡ 8325 → ⊥
no_words e = omega (arith, e)

-- no words are not those of two machines
unshaped : Shaped [] (table_config table).machines → ⊥
unshaped s = let e = rw machines_is at s.exact in omega (arith, e)

corrupted : (Right : Type 0) → (Right → Shaped [] (table_config table).machines) → Corrupted table 7 Right
corrupted Right f = record { long = long; machine = seven_below; wrong = λ r. unshaped (f r) }

-- the processors' set of machine 7
mapped_set : regions_of table mapped 7 Processors ≡ first ∷ []
mapped_set =
    set_is mapped (table_config table).machines _ Processors (is_zone mapped refl).machine
    ∙ rw (place_zero mapped refl, slots_one mapped refl) (regions_one mapped 1 refl has_mapped)

has_set : HasSet table mapped 7 Processors
has_set = rw (place_zero mapped refl, slots_one mapped refl) (record { lies = lit≤ tt; few = lit≤ tt })

-- ---- is_there

pub is_there_true : PresenceSays table there 7 (Ok true)
is_there_true = (known there refl, rw (place_zero there refl) refl, (is_here there refl refl).present)

pub is_there_false : PresenceSays table away 7 (Ok false)
is_there_false = (known away refl, rw (place_zero away refl) refl, (is_away away refl refl).absent)

pub is_there_no_machine : PresenceSays table away 8 (Err NotSeen.NoMachine)
is_there_no_machine = unknown

pub is_there_no_table : PresenceSays [] away 7 (Err NotSeen.NoTable)
is_there_no_table = no_words

pub is_there_corrupt : PresenceSays table [] 7 (Err NotSeen.Corrupt)
is_there_corrupt = corrupted _ (λ f. f.shaped)

-- ---- regions

pub regions_ok : SetSizeSays table mapped 7 Processors (Ok 1)
regions_ok = (known mapped refl, has_set, rw mapped_set refl)

pub regions_no_machine : SetSizeSays table mapped 8 Processors (Err NotSeen.NoMachine)
regions_no_machine = unknown

pub regions_no_table : SetSizeSays [] mapped 7 Processors (Err NotSeen.NoTable)
regions_no_table = no_words

pub regions_corrupt : SetSizeSays table [] 7 Processors (Err NotSeen.Corrupt)
regions_corrupt = corrupted _ (λ f. f.0.shaped)

-- ---- region

pub region_ok : SetRegionSays table mapped 7 Processors 0 (Ok first)
region_ok = record { known = known mapped refl; set = has_set; within = rw mapped_set (lit< tt); is = rw mapped_set refl }

pub region_no_region : SetRegionSays table mapped 7 Processors 1 (Err NoRegion.NoRegion)
region_no_region = (known mapped refl, has_set, rw mapped_set (lit≤ tt))

pub region_no_machine : SetRegionSays table mapped 8 Processors 0 (Err NoRegion.NoMachine)
region_no_machine = unknown

pub region_no_table : SetRegionSays [] mapped 7 Processors 0 (Err NoRegion.NoTable)
region_no_table = no_words

pub region_corrupt : SetRegionSays table [] 7 Processors 0 (Err NoRegion.Corrupt)
region_corrupt = corrupted _ (λ f. f.0.shaped)
