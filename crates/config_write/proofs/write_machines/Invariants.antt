-- What the loop of `config_write::write_machines` keeps. Assumes nothing.
use mathlib.Core.Path.{◌≡◌}
use Prim.Native.Nat.{◌<◌}
use Rattle.config_view.specs.View.{viewed, place}
use Rattle.config_write.specs.Writing.{WroteMachines}
use Rattle.config_write.proofs.write_machines.Given as goal

abbrev pub invariant-loop-m : goal.invariant-loop-m
invariant-loop-m l = WroteMachines (viewed l.v) l.m l.t × (l.m < (viewed l.v).machines → l.at ≡ place l.v l.m)
