-- `bitmap_runs::find_short` meets its contract. The invariant of its loop is `Scanning`; the measure is what is left of the words. Assumes nothing.
use native.Mathlib.Omega.{arith}
use Rattle.bitmap_tree.proofs.Fullness.{full_bound}
use Rattle.bitmap_runs.proofs.Starts.{scan_start}
use Rattle.bitmap_runs.proofs.find_short.Goals as goal

pub overflow_sub-p : goal.overflow_sub-p
overflow_sub-p c = let b = full_bound _ c.requires.0 in omega arith

pub loop-p-init : goal.loop-p-init
loop-p-init c = let b = full_bound _ c.requires.0 in (omega arith, scan_start _ _ _ c.requires.0)
