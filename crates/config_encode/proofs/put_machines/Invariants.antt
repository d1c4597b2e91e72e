-- What the loop of `config_encode::put_machines` keeps. Assumes nothing.
use mathlib.Core.Path.{◌≡◌}
use Rattle.config_view.specs.Table.{table_config}
use Rattle.config_encode.specs.Encoding.{WroteMachines, start_of}
use Rattle.config_encode.proofs.put_machines.Given as goal

abbrev pub invariant-loop-m : goal.invariant-loop-m
invariant-loop-m l = (l.p ≡ start_of (table_config l.t) l.m) × WroteMachines (table_config l.t) l.m l.initial.o l.o
