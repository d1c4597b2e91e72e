-- `replayframes_machines::rf_translate` meets its contract. Assumes nothing.
use mathlib.Core.Path.{refl}
use Rattle.machine.specs.declared.Which.{Which}
use Rattle.machine.specs.declared.Request.{Request}
use Rattle.replayframes_machines.proofs.Laws.{unnamed, named, about}
use Rattle.replayframes_machines.proofs.rf_translate.Goals as goal

pub returns-then-which-gt1 : goal.returns-then-which-gt1
returns-then-which-gt1 c = unnamed c.if-which-gt1.true refl refl

pub returns : goal.returns
returns c = named c.if-which-gt1.false (record { answer = c.translate-answer.result; says = about (λ (w : Which). Request.Translate w c.args.addr) c.which_of-set.ensures c.translate-answer.ensures; is = c.code_of.ensures; wrote = c.address_in.ensures })
