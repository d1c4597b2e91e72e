-- What the loop of `config_table::is_given` keeps: no region so far is the same. Assumes nothing.
use Rattle.std.proofs.Common.{◌≡◌, ℕ, ◌+◌, ◌*◌, ◌<◌}
use Rattle.region_words.specs.Words.{region_of}
use Rattle.config_table.proofs.is_given.Given as goal

abbrev pub invariant-loop-i : goal.invariant-loop-i
invariant-loop-i l = (k : ℕ) → k < l.i → l.r ≡ region_of l.table (130 * l.m + (2 + 4 * k)) → ⊥
