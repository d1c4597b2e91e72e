-- `replayframes_machines::rf_remove_region` meets its contract. Assumes nothing.
use mathlib.Core.Path.{refl}
use Rattle.machine.specs.declared.Which.{Which}
use Rattle.machine.specs.declared.Request.{Request}
use Rattle.replayframes_machines.proofs.Laws.{unnamed, named, about}
use Rattle.replayframes_machines.proofs.rf_remove_region.Goals as goal

pub returns-then-kind-gt2 : goal.returns-then-kind-gt2
returns-then-kind-gt2 c = unnamed c.if-kind-gt2.true refl refl

pub returns : goal.returns
returns c = named c.if-kind-gt2.false (record { answer = c.remove_region.result; says = about (Request.Remove Which.Processors) c.region_with-region.ensures c.remove_region.ensures; is = c.code_of.ensures })
