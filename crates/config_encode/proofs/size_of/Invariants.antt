-- What the loop of `config_encode::size_of` keeps. Assumes nothing.
use mathlib.Core.Path.{◌≡◌}
use Rattle.config_view.specs.Table.{table_config}
use Rattle.config_encode.specs.Encoding.{start_of}
use Rattle.config_encode.proofs.size_of.Given as goal

abbrev pub invariant-loop-m : goal.invariant-loop-m
invariant-loop-m l = (l.p ≡ start_of (table_config l.t) l.m)
