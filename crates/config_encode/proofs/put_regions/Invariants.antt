-- What the loop of `config_encode::put_regions` keeps. Assumes nothing.
use Rattle.config_view.specs.Table.{table_config}
use Rattle.config_encode.specs.Encoding.{WroteRegions}
use Rattle.config_encode.proofs.put_regions.Given as goal

abbrev pub invariant-loop-i : goal.invariant-loop-i
invariant-loop-i l = WroteRegions (table_config l.t) l.m l.i l.p l.initial.o l.o
