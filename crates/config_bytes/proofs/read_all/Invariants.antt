-- What the loop of `config_bytes::read_all` keeps. Assumes nothing.
use Rattle.config_bytes.proofs.Laws.{Machines}
use Rattle.config_bytes.proofs.read_all.Given as goal

abbrev pub invariant-loop-m : goal.invariant-loop-m
invariant-loop-m l = Machines l.s l.m l.at
