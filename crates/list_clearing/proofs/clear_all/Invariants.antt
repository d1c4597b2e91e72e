-- What the loop of `list_clearing::clear_all` keeps. Assumes nothing.
use Rattle.owners.specs.States.{state}
use Rattle.request_bytes.specs.Requests.{nth_request}
use Rattle.list_clearing.specs.Clearing.{ClearedAll}
use Rattle.list_clearing.proofs.clear_all.Given as goal

abbrev pub invariant-loop-i : goal.invariant-loop-i
invariant-loop-i l = ClearedAll l.first (state l.tree l.owners) l.c (nth_request l.bytes l.p) l.i l.initial.words l.words
