-- What the loop of `list_attempt::attempt_all` keeps. Assumes nothing.
use mathlib.Core.List.{List}
use Prim.Native.Nat.{ℕ, ◌+◌, ◌*◌}
use Rattle.base.specs.Ranges.{Only}
use Rattle.request_bytes.specs.Requests.{nth_request}
use Rattle.hv_state.specs.Memory.{Sound}
use Rattle.hv_state.specs.Serving.{mem}
use Rattle.hv_blind.specs.Blind.{Blank}
use Rattle.list_attempt.specs.Attempting.{Went}
use Rattle.list_attempt.proofs.attempt_all.Given as goal

abbrev pub invariant-loop-i : goal.invariant-loop-i
invariant-loop-i l = record {
  went : (v : List ℕ) → Blank v → Sound (mem l.table l.initial.zones l.initial.tree l.initial.owners v)
      → Went (mem l.table l.initial.zones l.initial.tree l.initial.owners v) l.number (nth_request l.bytes l.p) l.i (mem l.table l.zones l.tree l.owners v) l.answers l.at;
  told : Only l.initial.answers l.at (l.at + 2 * l.n) l.answers;
}
