-- `hv_check::judge_all` meets its contract. Assumes nothing.
use native.Mathlib.Omega.{arith}
use Rattle.hv_check.proofs.Laws.{laid_within}
use Rattle.hv_check.proofs.judge_all.Goals as goal

pub judge-requires : goal.judge-requires
judge-requires c = let e = c.requires.1 in (c.requires.0, omega arith, laid_within _ _ _ _ c.requires.2 (omega arith))
