-- What the loop of `config_bytes::read_regions` keeps. Assumes nothing.
use Rattle.config_bytes.proofs.Laws.{Regions}
use Rattle.config_bytes.proofs.read_regions.Given as goal

abbrev pub invariant-loop-i : goal.invariant-loop-i
invariant-loop-i l = Regions l.s l.at l.n l.m l.i
