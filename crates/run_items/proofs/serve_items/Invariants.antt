-- What the loop of `run_items::serve_items` keeps, and why it ends. Assumes nothing.
use Prim.Native.Nat.{◌-◌, ◌*◌, ◌/◌, ◌≤◌}
use lib.ListN.{length}
use Rattle.hv_state.specs.Serving.{mem}
use Rattle.run_items.proofs.Laws.{Ahead, Before}
use Rattle.run_items.proofs.serve_items.Given as goal

abbrev pub invariant-loop-p : goal.invariant-loop-p
invariant-loop-p l = record {
  within : l.p ≤ length l.bytes;
  replies : l.r ≤ 3 * (l.p / 16);
  answers : l.at ≤ 2 * (l.p / 33);
  ahead : Ahead l.bytes l.p;
  before : Before l.bytes l.p l.r l.at (mem l.table l.initial.zones l.initial.tree l.initial.owners l.initial.words)
      (mem l.table l.zones l.tree l.owners l.words) l.initial.replies l.initial.answers l.replies l.answers;
}

abbrev pub decreases-loop-p : goal.decreases-loop-p
decreases-loop-p l = length l.bytes - l.p
