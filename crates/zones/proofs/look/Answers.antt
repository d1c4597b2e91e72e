-- `zones::look` meets its contract. Assumes nothing.
use native.Mathlib.Omega.{arith}
use Rattle.zones.proofs.Laws.{is_zone, flag_is, flag_wrong}
use Rattle.zones.proofs.look.Goals as goal

pub returns-in-0 : goal.returns-in-0
returns-in-0 c = (is_zone _ _ _ _ c.requires.1 c.in-Some.ensures, flag_is _ _ _ _ _ c.in-Some.ensures.1 c.in-0.is)

pub returns-in-1 : goal.returns-in-1
returns-in-1 c = (is_zone _ _ _ _ c.requires.1 c.in-Some.ensures, flag_is _ _ _ _ _ c.in-Some.ensures.1 c.in-1.is)

pub returns-in_default-zones : goal.returns-in_default-zones
returns-in_default-zones c = flag_wrong _ _ _ _ c.in-Some.ensures.1 (omega arith) (omega arith)
