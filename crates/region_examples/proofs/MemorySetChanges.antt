-- An example of every answer of the functions that change a set of regions. Assumes nothing.
use mathlib.Core.Path.{refl}
use lib.Dec.{lit<, lit≤}
use Rattle.std.specs.Prelude.{Ok, Err}
use Rattle.address.specs.declared.Fault.{Fault}
use Rattle.region_words.specs.Words as words
use Rattle.set_model.specs.Sets as sets
use Rattle.set_model.specs.Sets.{starts, same}
use Rattle.set_model.proofs.Pages.{enter_maps, without_maps}
use Rattle.set_slots.specs.Slots as slots
use Rattle.set_slots.specs.Slots.{regions_in}
use Rattle.set_claims.specs.declared.Bad.{Bad}
use Rattle.set_claims.specs.declared.NotInserted.{NotInserted}
use Rattle.memory_set_changes.specs.Changes.{InsertSays, TakeSays, RemoveSays, ClearSays}
use Rattle.memory_set_changes.specs.declared.NotRemoved.{NotRemoved}
use Rattle.region_examples.proofs.Regions.{page, next, empty, guest_off, host_off, guest_high, host_high, page_valid, next_valid, empty_not, guest_off_not, host_off_not, guest_high_not, host_high_not}
use Rattle.region_examples.proofs.Address.{validity_no_page, validity_guest_start, validity_host_start, validity_guest_end, validity_host_end}
use Rattle.region_examples.proofs.Sets.{nowhere, vacant, held, broken, lies_nowhere, vacant_readable, held_readable, vacant_clear, vacant_ok, held_ok, is_broken, filled, emptied}

-- ---- insert

pub insert_ok : InsertSays vacant 0 1 page held (Ok tt)
unfolding slots.regions_in words.region_of words.kind_of
insert_ok =
    record {
      fitting = record { readable = vacant_readable; valid = page_valid; alone = refl };
      room = lit< tt;
      became = record { only = filled; is = refl; ok = λ o. held_ok };
      maps = enter_maps page (regions_in vacant 0 1);
    }

pub insert_bad_no_set : InsertSays nowhere 0 1 page nowhere (Err (NotInserted.Bad Bad.NoSet))
insert_bad_no_set = (refl, lies_nowhere)

pub insert_bad_corrupt : InsertSays broken 0 1 page broken (Err (NotInserted.Bad Bad.Corrupt))
insert_bad_corrupt = (refl, is_broken)

pub insert_not_valid_no_page : InsertSays held 0 1 empty held (Err (NotInserted.NotValid Fault.NoPage))
insert_not_valid_no_page = (refl, (held_readable, validity_no_page, empty_not))

pub insert_not_valid_guest_start : InsertSays held 0 1 guest_off held (Err (NotInserted.NotValid Fault.GuestStart))
insert_not_valid_guest_start = (refl, (held_readable, validity_guest_start, guest_off_not))

pub insert_not_valid_host_start : InsertSays held 0 1 host_off held (Err (NotInserted.NotValid Fault.HostStart))
insert_not_valid_host_start = (refl, (held_readable, validity_host_start, host_off_not))

pub insert_not_valid_guest_end : InsertSays held 0 1 guest_high held (Err (NotInserted.NotValid Fault.GuestEnd))
insert_not_valid_guest_end = (refl, (held_readable, validity_guest_end, guest_high_not))

pub insert_not_valid_host_end : InsertSays held 0 1 host_high held (Err (NotInserted.NotValid Fault.HostEnd))
insert_not_valid_host_end = (refl, (held_readable, validity_host_end, host_high_not))

pub insert_overlap : InsertSays held 0 1 page held (Err NotInserted.Overlap)
unfolding slots.regions_in words.region_of sets.meets
insert_overlap = (refl, (held_readable, page_valid, refl))

pub insert_no_room : InsertSays held 0 1 next held (Err NotInserted.NoRoom)
unfolding slots.regions_in words.region_of sets.meets
insert_no_room = (refl, (record { readable = held_readable; valid = next_valid; alone = refl }, refl))

-- ---- remove_starting_at

pub remove_starting_at_ok : TakeSays held 0 1 0 vacant (Ok page)
unfolding slots.regions_in words.region_of words.kind_of
remove_starting_at_ok =
    record {
      readable = held_readable;
      some = refl;
      is = refl;
      became = record { only = emptied; is = refl; ok = λ o. vacant_ok };
      maps = λ o. without_maps (starts 0) (regions_in held 0 1) o.ordered refl;
    }

pub remove_starting_at_not_there : TakeSays held 0 1 4096 held (Err NotRemoved.NotThere)
unfolding slots.regions_in words.region_of
remove_starting_at_not_there = (refl, held_readable, refl)

pub remove_starting_at_bad_no_set : TakeSays nowhere 0 1 0 nowhere (Err (NotRemoved.Bad Bad.NoSet))
remove_starting_at_bad_no_set = (refl, lies_nowhere)

pub remove_starting_at_bad_corrupt : TakeSays broken 0 1 0 broken (Err (NotRemoved.Bad Bad.Corrupt))
remove_starting_at_bad_corrupt = (refl, is_broken)

-- ---- remove

pub remove_ok : RemoveSays held 0 1 page vacant (Ok tt)
unfolding slots.regions_in words.region_of words.kind_of words.number_of sets.same
remove_ok =
    record {
      readable = held_readable;
      some = refl;
      is = refl;
      became = record { only = emptied; is = refl; ok = λ o. vacant_ok };
      maps = λ o. without_maps (same page) (regions_in held 0 1) o.ordered refl;
    }

pub remove_not_there : RemoveSays held 0 1 next held (Err NotRemoved.NotThere)
unfolding slots.regions_in words.region_of words.kind_of words.number_of sets.same
remove_not_there = (refl, held_readable, refl)

pub remove_bad_no_set : RemoveSays nowhere 0 1 page nowhere (Err (NotRemoved.Bad Bad.NoSet))
remove_bad_no_set = (refl, lies_nowhere)

pub remove_bad_corrupt : RemoveSays broken 0 1 page broken (Err (NotRemoved.Bad Bad.Corrupt))
remove_bad_corrupt = (refl, is_broken)

-- ---- clear

pub clear_ok : ClearSays held 0 1 vacant (Ok tt)
unfolding slots.regions_in
clear_ok = record { lies = lit≤ tt; only = emptied; count = refl; clear = vacant_clear; is = refl; ok = vacant_ok }

pub clear_no_set : ClearSays nowhere 0 1 nowhere (Err (record {}))
clear_no_set = (refl, lies_nowhere)
