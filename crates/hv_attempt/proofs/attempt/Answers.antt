-- `hv_attempt::attempt` meets its contract. Assumes nothing.
use Rattle.hv_dispatch.proofs.Laws.{as_asked}
use Rattle.hv_attempt.proofs.attempt.Goals as goal

pub returns-in-AddZone : goal.returns-in-AddZone
returns-in-AddZone c = λ w blank. as_asked c.in-AddZone.is (c.add_zone.ensures _ _ w)

pub returns-in-RemoveZone : goal.returns-in-RemoveZone
returns-in-RemoveZone c = λ w blank. as_asked c.in-RemoveZone.is (c.remove_zone.ensures w)

pub returns-in-RemoveZoneWhole : goal.returns-in-RemoveZoneWhole
returns-in-RemoveZoneWhole c = λ w blank. as_asked c.in-RemoveZoneWhole.is (c.remove_zone_whole.ensures w blank)

pub returns-in-Insert : goal.returns-in-Insert
returns-in-Insert c = λ w blank. as_asked c.in-Insert.is (c.insert.ensures _ _ w)

pub returns-in-Remove : goal.returns-in-Remove
returns-in-Remove c = λ w blank. as_asked c.in-Remove.is (c.remove.ensures _ _ w)

pub returns-in-Translate : goal.returns-in-Translate
returns-in-Translate c = λ w blank. as_asked c.in-Translate.is (c.translate.ensures _ _ w)

pub returns-in-Alloc : goal.returns-in-Alloc
returns-in-Alloc c = λ w blank. as_asked c.in-Alloc.is (c.alloc.ensures w blank)

pub returns-in-AllocContiguous : goal.returns-in-AllocContiguous
returns-in-AllocContiguous c = λ w blank. as_asked c.in-AllocContiguous.is (c.alloc_contiguous.ensures w blank)

pub returns-in-Dealloc : goal.returns-in-Dealloc
returns-in-Dealloc c = λ w blank. as_asked c.in-Dealloc.is (c.dealloc.ensures w blank)

pub returns-in-DeallocContiguous : goal.returns-in-DeallocContiguous
returns-in-DeallocContiguous c = λ w blank. as_asked c.in-DeallocContiguous.is (c.dealloc_contiguous.ensures w blank)
