-- `config_write::write_machines` meets its contract. Assumes nothing.
use native.Mathlib.Numerals.{add-one}
use Rattle.config_write.proofs.Laws.{machines_more}
use Rattle.config_write.proofs.write_machines.Goals as goal

pub loop-m-preserved : goal.loop-m-preserved
loop-m-preserved c = (machines_more c.loop-m.invariant.0 c.write_machine.ensures, rw add-one c.next_in-at.ensures)
