-- An example of every answer about a set of regions. Assumes nothing.
use mathlib.Core.Path.{refl}
use native.Mathlib.Omega.{arith}
use lib.Dec.{lit<, lit≤}
use Rattle.std.specs.Prelude.{true, false, Ok, Err}
use Rattle.region_words.specs.Words as words
use Rattle.set_model.specs.Sets as sets
use Rattle.set_slots.specs.Slots as slots
use Rattle.set_claims.specs.declared.Bad.{Bad}
use Rattle.memory_set.specs.Looks.{EmptySays, OverlapsSays, StartsSays, TranslateSays, CheckSays}
use Rattle.memory_set.specs.declared.NotMapped.{NotMapped}
use Rattle.memory_set.specs.declared.NotInOrder.{NotInOrder}
use Rattle.region_examples.proofs.Regions.{page, next}
use Rattle.region_examples.proofs.Sets.{nowhere, vacant, held, broken, odd, lies_nowhere, vacant_readable, held_readable, odd_readable, held_ok, is_broken}

-- ---- is_empty

pub is_empty_true : EmptySays vacant 0 1 (Ok true)
unfolding slots.regions_in
is_empty_true = (vacant_readable, refl)

pub is_empty_false : EmptySays held 0 1 (Ok false)
unfolding slots.regions_in
is_empty_false = (held_readable, refl)

pub is_empty_no_set : EmptySays nowhere 0 1 (Err Bad.NoSet)
is_empty_no_set = lies_nowhere

pub is_empty_corrupt : EmptySays broken 0 1 (Err Bad.Corrupt)
is_empty_corrupt = is_broken

-- ---- overlaps_vmem

pub overlaps_vmem_true : OverlapsSays held 0 1 page (Ok true)
unfolding slots.regions_in words.region_of sets.meets
overlaps_vmem_true = (held_readable, refl)

pub overlaps_vmem_false : OverlapsSays held 0 1 next (Ok false)
unfolding slots.regions_in words.region_of sets.meets
overlaps_vmem_false = (held_readable, refl)

pub overlaps_vmem_no_set : OverlapsSays nowhere 0 1 page (Err Bad.NoSet)
overlaps_vmem_no_set = lies_nowhere

pub overlaps_vmem_corrupt : OverlapsSays broken 0 1 page (Err Bad.Corrupt)
overlaps_vmem_corrupt = is_broken

-- ---- has_region_starting_at

pub has_region_starting_at_true : StartsSays held 0 1 0 (Ok true)
unfolding slots.regions_in words.region_of
has_region_starting_at_true = (held_readable, refl)

pub has_region_starting_at_false : StartsSays held 0 1 4096 (Ok false)
unfolding slots.regions_in words.region_of
has_region_starting_at_false = (held_readable, refl)

pub has_region_starting_at_no_set : StartsSays nowhere 0 1 0 (Err Bad.NoSet)
has_region_starting_at_no_set = lies_nowhere

pub has_region_starting_at_corrupt : StartsSays broken 0 1 0 (Err Bad.Corrupt)
has_region_starting_at_corrupt = is_broken

-- ---- translate

pub translate_ok : TranslateSays held 0 1 5 (Ok 4101)
unfolding slots.regions_in words.region_of sets.covers
translate_ok = record { readable = held_readable; covered = refl; is = refl }

pub translate_no_region : TranslateSays held 0 1 4096 (Err NotMapped.NoRegion)
unfolding slots.regions_in words.region_of sets.covers
translate_no_region = (held_readable, refl)

pub translate_bad_no_set : TranslateSays nowhere 0 1 0 (Err (NotMapped.Bad Bad.NoSet))
translate_bad_no_set = lies_nowhere

pub translate_bad_corrupt : TranslateSays broken 0 1 0 (Err (NotMapped.Bad Bad.Corrupt))
translate_bad_corrupt = is_broken

-- ---- check

pub check_ok : CheckSays held 0 1 (Ok tt)
check_ok = (lit≤ tt, held_ok)

pub check_bad_no_set : CheckSays nowhere 0 1 (Err (NotInOrder.Bad Bad.NoSet))
check_bad_no_set = lies_nowhere

pub check_bad_corrupt : CheckSays broken 0 1 (Err (NotInOrder.Bad Bad.Corrupt))
check_bad_corrupt = is_broken

pub check_wrong : CheckSays odd 0 1 (Err (NotInOrder.Wrong 0))
check_wrong =
    record {
      readable = odd_readable;
      within = lit< tt;
      before = λ j l. absurd (omega arith);
      fails = λ o. let k = (o.used (lit< tt)).kind in omega arith;
      broken = λ o. let k = o.kinds 0 (lit< tt) in omega arith;
    }
