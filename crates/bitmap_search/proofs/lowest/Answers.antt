-- `bitmap_search::lowest` meets its contract. Assumes nothing.
use native.Mathlib.Omega.{arith}
use Rattle.bitmap_tree.proofs.Fullness.{full_bound}
use Rattle.bitmap_search.proofs.Descent.{root_says_none, under_root}
use Rattle.bitmap_search.proofs.lowest.Goals as goal

pub bounds-tree-0 : goal.bounds-tree-0
bounds-tree-0 c = let b = full_bound _ c.requires in omega arith

pub returns-then-tree-eq0 : goal.returns-then-tree-eq0
returns-then-tree-eq0 c = (c.if-tree-eq0.true, root_says_none _ c.requires c.if-tree-eq0.true)

pub descend-requires : goal.descend-requires
descend-requires c = let b = full_bound _ c.requires in (omega arith, b.0, b.1, record { set = λ l. absurd (omega arith); root = λ _. c.if-tree-eq0.false })

pub returns : goal.returns
returns c = under_root _ _ c.requires (c.in_ok-j.ensures)
