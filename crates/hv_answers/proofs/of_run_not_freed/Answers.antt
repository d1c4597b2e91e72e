-- `hv_answers::of_run_not_freed` meets its contract. Assumes nothing.
use mathlib.Core.Path.{sym, ap}
use Rattle.hv_answers.specs.Answers.{of_run_not_freed}
use Rattle.hv_answers.proofs.of_run_not_freed.Goals as goal

pub returns-in-Unfit : goal.returns-in-Unfit
returns-in-Unfit c = ap of_run_not_freed (sym c.in-Unfit.is)

pub returns-in-NoClient : goal.returns-in-NoClient
returns-in-NoClient c = ap of_run_not_freed (sym c.in-NoClient.is)

pub returns-in-Below : goal.returns-in-Below
returns-in-Below c = ap of_run_not_freed (sym c.in-Below.is)

pub returns-in-NotAtFrame : goal.returns-in-NotAtFrame
returns-in-NotAtFrame c = ap of_run_not_freed (sym c.in-NotAtFrame.is)

pub returns-in-Empty : goal.returns-in-Empty
returns-in-Empty c = ap of_run_not_freed (sym c.in-Empty.is)

pub returns-in-Outside : goal.returns-in-Outside
returns-in-Outside c = ap of_run_not_freed (sym c.in-Outside.is)

pub returns-in-NotTaken : goal.returns-in-NotTaken
returns-in-NotTaken c = ap of_run_not_freed (sym c.in-NotTaken.is)

pub returns-in-NotYours : goal.returns-in-NotYours
returns-in-NotYours c = ap of_run_not_freed (sym c.in-NotYours.is)
