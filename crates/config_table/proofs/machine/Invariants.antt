-- What the loop of `config_table::machine` keeps: no machine so far has the number. Assumes nothing.
use Rattle.std.proofs.Common.{◌≡◌, ℕ, ◌*◌, ◌%◌, ◌<◌, get_or}
use Rattle.config_table.proofs.machine.Given as goal

abbrev pub invariant-loop-m : goal.invariant-loop-m
invariant-loop-m l = (k : ℕ) → k < l.m → get_or l.table (130 * k) 0 % 65536 ≡ l.number → ⊥
