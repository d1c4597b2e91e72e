-- `frames_pool::check` meets its contract. Assumes nothing.
use native.Mathlib.Omega.{arith}
use Rattle.frames_pool.proofs.Cleaning.{all_beyond, all_clean}
use Rattle.frames_pool.proofs.check.Goals as goal

pub reserved_until-beyond-requires : goal.reserved_until-beyond-requires
reserved_until-beyond-requires c = let m = c.in_ok-check.ensures.matched in let e = m.bytes in let n = c.if-not-is_backed.ensures.few in (m, omega arith)

pub returns-then-beyond-owners : goal.returns-then-beyond-owners
returns-then-beyond-owners c = let a = c.in_ok-check.ensures in let m = a.matched.bytes in let x = c.reserved_until-beyond.ensures in let h = x.high in record { accounted = a; backed = c.if-not-is_backed.ensures; within = omega (arith, c.if-beyond-owners.true); stops = x }

pub returns-then-dirty-n : goal.returns-then-dirty-n
returns-then-dirty-n c = let a = c.in_ok-check.ensures in let m = a.matched.bytes in let x = c.clean_until-dirty.ensures in let h = x.high in record { accounted = a; backed = c.if-not-is_backed.ensures; beyond = all_beyond _ _ _ _ m c.reserved_until-beyond.ensures (omega (arith, c.if-beyond-owners.false)); within = omega (arith, c.if-dirty-n.true); stops = x }

pub returns : goal.returns
returns c = let a = c.in_ok-check.ensures in let m = a.matched.bytes in all_clean _ _ _ _ _ a c.if-not-is_backed.ensures (all_beyond _ _ _ _ m c.reserved_until-beyond.ensures (omega (arith, c.if-beyond-owners.false))) c.clean_until-dirty.ensures c.if-dirty-n.false
