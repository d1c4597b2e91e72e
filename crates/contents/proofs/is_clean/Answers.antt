-- `contents::is_clean` meets its contract. Assumes nothing.
use Prim.Native.Nat.{◌+◌, ◌-◌, ◌*◌}
use lib.ListN.{length}
use Rattle.std.proofs.Common.{rules, tests, arith, ◌≡◌, ◌≢◌}
use Rattle.std.proofs.lemmas.Iterator.{cases_from_all, YieldsList-from_slice}
use Rattle.bitmap_tree.specs.Tree.{free}
use Rattle.bitmap_tree.proofs.Nodes.{bit_lt}
use Rattle.contents.proofs.Words.{zero_said, frame}
use Rattle.contents.proofs.is_clean.Goals as goal

pub returns-else-read-eq0 : goal.returns-else-read-eq0
returns-else-read-eq0 c =
    let b = bit_lt c.args.tree.now (length c.args.tree.now + c.args.k) in
    let k = c.args.k in
    let set : free c.args.tree.now k ≡ 1 = let q = c.read.ensures in omega (arith, c.if-read-eq0.false) in
    zero_said c.args.words.now k (512 * k + 512 - 512 * k) _ set (omega arith) c.requires.0
    (cases_from_all _ _ _ (λ x. x ≡ 0) (λ x. x ≢ 0) c.all.ensures.ran (YieldsList-from_slice (frame c.args.words.now k (512 * k + 512 - 512 * k)) cc) (λ x q k. search (rules, tests)) (λ x q k. search (rules, tests)))
