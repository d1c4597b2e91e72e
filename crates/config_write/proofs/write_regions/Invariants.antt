-- What the loop of `config_write::write_regions` keeps. Assumes nothing.
use Rattle.config_view.specs.View.{viewed}
use Rattle.config_write.proofs.Laws.{Regions}
use Rattle.config_write.proofs.write_regions.Given as goal

abbrev pub invariant-loop-i : goal.invariant-loop-i
invariant-loop-i l = Regions (viewed l.v) l.m l.i l.initial.t l.t
