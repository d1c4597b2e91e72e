-- `memory_set_changes::clear` meets its contract. Assumes nothing.
use Rattle.set_shifts.proofs.Changes.{none_only, none_count, none_clear, none_is, none_ok}
use Rattle.memory_set_changes.proofs.clear.Goals as goal

pub returns : goal.returns
returns c =
    let l = c.if-not-lies.ensures in
    record {
      lies = l;
      only = none_only l c.wipe.ensures;
      count = none_count l c.wipe.ensures;
      clear = none_clear l c.wipe.ensures;
      is = none_is l c.wipe.ensures;
      ok = none_ok l c.wipe.ensures;
    }
