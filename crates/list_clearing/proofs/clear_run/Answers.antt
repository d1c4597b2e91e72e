-- `list_clearing::clear_run` meets its contract. Assumes nothing.
use mathlib.Core.Path.{ap}
use Prim.Native.Nat.{ℕ, ◌+◌}
use native.Mathlib.Omega.{arith}
use Rattle.list_clearing.proofs.Laws.{run_cleared, none_cleared, not_in_run}
use Rattle.list_clearing.proofs.clear_run.Goals as goal

pub returns-then-k-frames : goal.returns-then-k-frames
returns-then-k-frames c = run_cleared c.args.k c.args.n _ c.requires (omega (arith, c.if-k-frames.true)) (ap (λ (x : ℕ). c.args.k + x) c.min.ensures) c.wipe.ensures

pub returns-else-k-frames : goal.returns-else-k-frames
returns-else-k-frames c = none_cleared c.args.words.now (λ i l. not_in_run c.args.k c.args.n i (omega (arith, c.if-k-frames.false, l))) c.requires
