-- `hv_answers::of_no_run` meets its contract. Assumes nothing.
use mathlib.Core.Path.{sym, ap}
use Rattle.hv_answers.specs.Answers.{of_no_run}
use Rattle.hv_answers.proofs.of_no_run.Goals as goal

pub returns-in-Unfit : goal.returns-in-Unfit
returns-in-Unfit c = ap of_no_run (sym c.in-Unfit.is)

pub returns-in-NoClient : goal.returns-in-NoClient
returns-in-NoClient c = ap of_no_run (sym c.in-NoClient.is)

pub returns-in-Empty : goal.returns-in-Empty
returns-in-Empty c = ap of_no_run (sym c.in-Empty.is)

pub returns-in-NoRoom : goal.returns-in-NoRoom
returns-in-NoRoom c = ap of_no_run (sym c.in-NoRoom.is)

pub returns-in-Corrupt : goal.returns-in-Corrupt
returns-in-Corrupt c = ap of_no_run (sym c.in-Corrupt.is)
