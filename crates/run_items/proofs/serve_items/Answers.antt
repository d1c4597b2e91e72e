-- `run_items::serve_items` meets its contract. Assumes nothing.
use mathlib.Core.Path.{sym, subst}
use Prim.Native.Nat.{ℕ, ◌+◌}
use native.Mathlib.Omega.{arith}
use Rattle.run_items.proofs.Laws.{Ahead, ahead_whole, ahead_next, before_all, before_rest, before_none, spare_stays}
use Rattle.run_items.proofs.serve_items.Goals as goal

pub loop-p-init : goal.loop-p-init
loop-p-init c = record {
  within = omega arith;
  replies = omega arith;
  answers = omega arith;
  ahead = record { items = c.requires.framed.0; framed = c.requires.framed.1 };
  before = before_all _ _ c.args.replies.now c.args.answers.now;
}

pub serve_item-len-requires : goal.serve_item-len-requires
serve_item-len-requires c =
    let w = ahead_whole (omega arith) c.loop-p.invariant.ahead in
    let a = c.loop-p.auto in
    let x = c.requires.replies in
    let y = c.requires.answers in
    record {
      spare = spare_stays c.requires.spare a.zones a.tree a.owners a.spare_zones a.spare_tree a.spare_owners;
      whole = w;
      reply = omega arith;
      room = omega arith;
    }

pub overflow_add-p : goal.overflow_add-p
overflow_add-p c = let w = ahead_whole (omega arith) c.loop-p.invariant.ahead in let e = c.serve_item-len.ensures.len in omega (arith, c.well_formed)

pub overflow_add-p-in-loop-p : goal.overflow_add-p-in-loop-p
overflow_add-p-in-loop-p c = let w = ahead_whole (omega arith) c.loop-p.invariant.ahead in let e = c.serve_item-len.ensures.len in omega (arith, c.well_formed)

pub overflow_add-r : goal.overflow_add-r
overflow_add-r c = let w = ahead_whole (omega arith) c.loop-p.invariant.ahead in let e = c.serve_item-len.ensures.len in omega (arith, c.well_formed)

pub overflow_mul-at : goal.overflow_mul-at
overflow_mul-at c = let w = ahead_whole (omega arith) c.loop-p.invariant.ahead in let e = c.serve_item-len.ensures.len in omega (arith, c.well_formed)

pub overflow_add-at : goal.overflow_add-at
overflow_add-at c = let w = ahead_whole (omega arith) c.loop-p.invariant.ahead in let e = c.serve_item-len.ensures.len in omega (arith, c.well_formed)

pub loop-p-smaller : goal.loop-p-smaller
loop-p-smaller c = let w = ahead_whole (omega arith) c.loop-p.invariant.ahead in let e = c.serve_item-len.ensures.len in omega (arith, c.well_formed)

pub loop-p-preserved : goal.loop-p-preserved
loop-p-preserved c =
    let w = ahead_whole (omega arith) c.loop-p.invariant.ahead in
    let e = c.serve_item-len.ensures.len in
    record {
      within = omega arith;
      replies = omega arith;
      answers = omega arith;
      ahead = subst (λ (n : ℕ). Ahead c.args.bytes.now (c.loop-p.p + (16 + n))) (sym e) (ahead_next (omega arith) c.loop-p.invariant.ahead);
      before = before_rest c.args.bytes.now c.loop-p.p c.loop-p.r c.loop-p.at _ _ _ _ _ _ _ _ _ _ e w c.loop-p.invariant.before c.serve_item-len.ensures.served;
    }

pub returns : goal.returns
returns c = let a = c.loop-p.invariant.within in before_none _ _ _ _ _ _ _ _ _ _ (omega arith) c.loop-p.invariant.before
