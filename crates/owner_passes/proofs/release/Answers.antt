-- `owner_passes::release` meets its contract. Assumes nothing.
use native.Mathlib.Omega.{arith}
use lib.ListN.{length}
use Rattle.base.proofs.Search.{stops_none, stops_at}
use Rattle.owner_passes.proofs.Releasing.{release_more, release_done, stretch_some}
use Rattle.owner_passes.proofs.release.Goals as goal

pub returns-then-a-end : goal.returns-then-a-end
returns-then-a-end c =
    let r = c.loop-k.invariant.1 in
    let l = r.bytes in
    release_done _ _ _ _ _ 0 _ _ c.loop-k.tree c.loop-k.owners c.requires.1 r c.other_until-a.ensures (omega (arith, c.if-a-end.true)) c.requires.0.bytes

pub loop-k-smaller : goal.loop-k-smaller
loop-k-smaller c =
    let l = c.loop-k.invariant.1.bytes in
    let x = c.other_until-a.ensures in let y = c.byte_until-k.ensures in let low = x.low in let h = x.high in let g = y.high in
    let s = stretch_some c.loop-k.owners c.args.c c.loop-k.k (length c.loop-k.owners) c.other_until-a.result c.byte_until-k.result x (rw l y) (omega (arith, c.if-a-end.false)) in
    omega arith

pub loop-k-preserved : goal.loop-k-preserved
loop-k-preserved c =
    let r = c.loop-k.invariant.1 in
    let l = r.bytes in let w = r.words in let e = c.requires.0.bytes in let y = c.byte_until-k.ensures in let h = y.high in
    (omega arith, release_more _ _ _ _ _ _ _ _ _ _ c.requires.1 r c.other_until-a.ensures (rw l y) (omega arith) c.assign.ensures)

pub returns : goal.returns
returns c =
    let i = c.loop-k.invariant in
    let l = i.1.bytes in
    release_done _ _ _ _ c.loop-k.k 0 _ _ c.loop-k.tree c.loop-k.owners c.requires.1 i.1
    (stops_at _ (stops_none _) (omega arith) (λ q. absurd (omega arith))) (omega arith) c.requires.0.bytes
