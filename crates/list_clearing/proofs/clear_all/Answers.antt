-- `list_clearing::clear_all` meets its contract. Assumes nothing.
use mathlib.Core.Path.{◌≡◌}
use native.Mathlib.Omega.{arith}
use Rattle.request_bytes.specs.Requests.{nth_request}
use Rattle.list_clearing.proofs.Laws.{all_none, all_more, still_backed}
use Rattle.list_clearing.proofs.clear_all.Goals as goal

pub loop-i-init : goal.loop-i-init
loop-i-init c = all_none _ _ _ _ _

pub overflow_add-p : goal.overflow_add-p
overflow_add-p c = let r = c.requires.members.within in omega arith

pub clear_read-requires : goal.clear_read-requires
clear_read-requires c = let r = c.requires in (r.matched, still_backed r.backed c.loop-i.invariant.long, r.client, r.members.right c.loop-i.i (omega arith))

pub loop-i-preserved : goal.loop-i-preserved
loop-i-preserved c = all_more _ _ _ (nth_request c.args.bytes.now c.args.p) _ _ _ _ c.loop-i.invariant c.clear_read.ensures

pub returns : goal.returns
returns c = let e : c.loop-i.i ≡ c.args.n = omega arith in rw e at c.loop-i.invariant
