-- `allocator_pool::check` meets its contract. Assumes nothing.
use native.Mathlib.Omega.{arith}
use Rattle.bitmap_looks.proofs.Answers.{no_lie}
use Rattle.allocator_pool.proofs.check.Goals as goal

pub returns-then-k-owners : goal.returns-then-k-owners
returns-then-k-owners c = let f = c.in_ok-fitting.ensures in let m = f.matched.bytes in record { fits = f; agree = no_lie _ _ f.matched.full c.first_lie-p.ensures c.if-p-tree.false; within = omega arith; stops = c.right_until-k.ensures }

pub returns : goal.returns
returns c = let f = c.in_ok-fitting.ensures in let m = f.matched.bytes in record { matched = f.matched; aligned = f.aligned; agree = no_lie _ _ f.matched.full c.first_lie-p.ensures c.if-p-tree.false; right = λ k l. c.right_until-k.ensures.before k (omega arith) (omega arith) }
