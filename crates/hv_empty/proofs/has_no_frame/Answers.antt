-- `hv_empty::has_no_frame` meets its contract. Assumes nothing.
use native.Mathlib.Omega.{arith}
use Rattle.owners.proofs.States.{dec_owned}
use Rattle.hv_empty.proofs.Laws.{none_owned, one_owned}
use Rattle.hv_empty.proofs.has_no_frame.Goals as goal

pub others_until-requires : goal.others_until-requires
others_until-requires c = let f = c.in_ok-fitting.ensures in (f.matched, omega arith, c.requires)

pub returns-then-others_until-owners : goal.returns-then-others_until-owners
returns-then-others_until-owners c = let f = c.in_ok-fitting.ensures in one_owned _ _ _ c.others_until.result (dec_owned _ _ _ _) c.others_until.ensures (let e = f.matched.bytes in let l = c.if-others_until-owners.true in omega arith)

pub returns : goal.returns
returns c = let f = c.in_ok-fitting.ensures in none_owned _ _ _ c.others_until.result f.matched c.others_until.ensures (let e = f.matched.bytes in let l = c.if-others_until-owners.false in omega arith)
