-- `owner_passes::count` meets its contract. Assumes nothing.
use mathlib.Core.Path.{sym, ◌∙◌, ap₂}
use Prim.Native.Nat.{◌+◌}
use native.Mathlib.Omega.{arith}
use Rattle.base.proofs.Counts.{many_le, many_none}
use Rattle.bitmap_tree.proofs.Fullness.{full_bound}
use Rattle.owners.specs.States.{state}
use Rattle.owner_passes.specs.Passes.{owns}
use Rattle.owner_passes.proofs.Counting.{owns_small, many_next}
use Rattle.owner_passes.proofs.count.Goals as goal

pub loop-k-init : goal.loop-k-init
loop-k-init c = sym (many_none _)

pub overflow_add-total : goal.overflow_add-total
overflow_add-total c = let e = c.requires.0.bytes in let b = full_bound _ c.requires.0.full in let i = c.loop-k.invariant in let l = many_le (λ m. owns c.args.c (state c.args.tree.now c.args.owners.now m)) c.loop-k.k (λ m. owns_small c.args.c (state c.args.tree.now c.args.owners.now m)) in let s = owns_small c.args.c (state c.args.tree.now c.args.owners.now c.loop-k.k) in let q = c.one_if_owned-total.ensures in omega arith

pub loop-k-preserved : goal.loop-k-preserved
loop-k-preserved c = ap₂ ◌+◌ c.loop-k.invariant c.one_if_owned-total.ensures ∙ sym (many_next _ _)
