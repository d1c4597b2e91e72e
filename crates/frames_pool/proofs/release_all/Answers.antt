-- `frames_pool::release_all` meets its contract. Assumes nothing.
use native.Mathlib.Omega.{arith}
use Rattle.contents.proofs.Cleaning.{kept_all}
use Rattle.frames_pool.proofs.Cleaning.{owned_surely, none_beyond, left_clean}
use Rattle.frames_pool.proofs.release_all.Goals as goal

pub others_until-requires : goal.others_until-requires
others_until-requires c = let m = c.in_ok-fitting.ensures.matched in let e = m.bytes in let n = c.if-not-is_backed.ensures.few in (m, omega arith, c.if-c-ge64.false)

pub returns-then-others_until-owners : goal.returns-then-others_until-owners
returns-then-others_until-owners c = let f = c.in_ok-fitting.ensures in let m = f.matched.bytes in let x = c.others_until.ensures in let h = x.high in (kept_all _ _ _, record { backed = c.if-not-is_backed.ensures; known = record { fits = f; client = c.if-c-ge64.false }; frame = _; past = x.low; mine = owned_surely _ _ _ _ (x.fails (omega (arith, c.if-others_until-owners.true))) })

pub returns : goal.returns
returns c = let f = c.in_ok-fitting.ensures in record { backed = c.if-not-is_backed.ensures; known = record { fits = f; client = c.if-c-ge64.false }; inside = (let m = f.matched.bytes in none_beyond _ _ _ _ _ m c.others_until.ensures (omega (arith, c.if-others_until-owners.false))); released = c.release.ensures; wiped = c.wipe_owned.ensures; clean = left_clean _ _ _ _ _ _ _ _ c.release.ensures c.wipe_owned.ensures }
