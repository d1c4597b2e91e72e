-- `list_clearing::clear_freed` meets its contract. Assumes nothing.
use mathlib.Core.Path.{refl}
use Rattle.list_clearing.proofs.Laws.{owned_cleared, of_request, of_no_frame_lem}
use Rattle.list_clearing.proofs.clear_freed.Goals as goal

pub wipe_owned-requires : goal.wipe_owned-requires
wipe_owned-requires c = c.requires

pub clear_from-requires : goal.clear_from-requires
clear_from-requires c = c.requires.1.whole

pub clear_from-requires-in-DeallocContiguous : goal.clear_from-requires-in-DeallocContiguous
clear_from-requires-in-DeallocContiguous c = c.requires.1.whole

pub returns-in-AddZone : goal.returns-in-AddZone
returns-in-AddZone c = of_no_frame_lem c.args.tree.now c.args.owners.now c.args.words.now c.args.first c.args.c c.in-AddZone.is c.requires.1 (λ i. refl)

pub returns-in-RemoveZone : goal.returns-in-RemoveZone
returns-in-RemoveZone c = of_no_frame_lem c.args.tree.now c.args.owners.now c.args.words.now c.args.first c.args.c c.in-RemoveZone.is c.requires.1 (λ i. refl)

pub returns-in-RemoveZoneWhole : goal.returns-in-RemoveZoneWhole
returns-in-RemoveZoneWhole c = of_request c.args.tree.now c.args.owners.now c.args.words.now c.args.first c.args.c c.in-RemoveZoneWhole.is (owned_cleared c.args.c c.requires.1 c.wipe_owned.ensures)

pub returns-in-Insert : goal.returns-in-Insert
returns-in-Insert c = of_no_frame_lem c.args.tree.now c.args.owners.now c.args.words.now c.args.first c.args.c c.in-Insert.is c.requires.1 (λ i. refl)

pub returns-in-Remove : goal.returns-in-Remove
returns-in-Remove c = of_no_frame_lem c.args.tree.now c.args.owners.now c.args.words.now c.args.first c.args.c c.in-Remove.is c.requires.1 (λ i. refl)

pub returns-in-Translate : goal.returns-in-Translate
returns-in-Translate c = of_no_frame_lem c.args.tree.now c.args.owners.now c.args.words.now c.args.first c.args.c c.in-Translate.is c.requires.1 (λ i. refl)

pub returns-in-Alloc : goal.returns-in-Alloc
returns-in-Alloc c = of_no_frame_lem c.args.tree.now c.args.owners.now c.args.words.now c.args.first c.args.c c.in-Alloc.is c.requires.1 (λ i. refl)

pub returns-in-AllocContiguous : goal.returns-in-AllocContiguous
returns-in-AllocContiguous c = of_no_frame_lem c.args.tree.now c.args.owners.now c.args.words.now c.args.first c.args.c c.in-AllocContiguous.is c.requires.1 (λ i. refl)

pub returns-in-Dealloc : goal.returns-in-Dealloc
returns-in-Dealloc c = of_request c.args.tree.now c.args.owners.now c.args.words.now c.args.first c.args.c c.in-Dealloc.is c.clear_from.ensures

pub returns-in-DeallocContiguous : goal.returns-in-DeallocContiguous
returns-in-DeallocContiguous c = of_request c.args.tree.now c.args.owners.now c.args.words.now c.args.first c.args.c c.in-DeallocContiguous.is c.clear_from-in-DeallocContiguous.ensures
