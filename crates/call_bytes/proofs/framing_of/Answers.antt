-- `call_bytes::framing_of` meets its contract. Assumes nothing.
use mathlib.Core.Path.{sym, subst}
use Prim.Native.Nat.{ℕ, ◌+◌}
use native.Mathlib.Omega.{arith}
use Rattle.call_bytes.specs.Framing.{Breaks}
use Rattle.call_bytes.proofs.Laws.{Walked, walked_none, walked_more, walked_all}
use Rattle.call_bytes.proofs.framing_of.Goals as goal

pub loop-p-init : goal.loop-p-init
loop-p-init c = walked_none c.args.bytes.now

pub returns-then-have-lt16 : goal.returns-then-have-lt16
returns-then-have-lt16 c = c.loop-p.invariant.broken _ (Breaks.Here c.loop-p-test.true (λ l. omega arith))

pub returns-then-have-len : goal.returns-then-have-len
returns-then-have-len c = let e = c.u64_at-len.ensures in c.loop-p.invariant.broken _ (Breaks.Here c.loop-p-test.true (λ l. omega arith))

pub overflow_add-n : goal.overflow_add-n
overflow_add-n c = let h = c.loop-p.invariant.few in omega arith

pub loop-p-preserved : goal.loop-p-preserved
loop-p-preserved c = subst (λ (k : ℕ). Walked c.args.bytes.now (c.loop-p.n + 1) (c.loop-p.p + (16 + k))) (sym c.u64_at-len.ensures) (walked_more c.loop-p.invariant (let e = c.u64_at-len.ensures in omega arith))

pub returns : goal.returns
returns c = walked_all c.loop-p.invariant c.loop-p-test.false
