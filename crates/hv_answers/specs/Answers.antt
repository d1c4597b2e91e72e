-- The allocator's reasons as answers to a machine. Assumes nothing.
use Rattle.claims.specs.declared.NoFrame.{NoFrame}
use Rattle.claims.specs.declared.NoRun.{NoRun}
use Rattle.claims.specs.declared.NotFreed.{NotFreed}
use Rattle.claims.specs.declared.RunNotFreed.{RunNotFreed}
use Rattle.machine.specs.declared.Reason.TheVariants.{NoRoom, NoFrames, Below, NotAtFrame, Outside, NotTaken, NotYours}
use Rattle.machine.specs.declared.Answer.{Answer}

-- why no frame is given
abbrev pub of_no_frame : NoFrame → Answer
of_no_frame (NoFrame.Unfit why) = Answer.Corrupt
of_no_frame NoFrame.NoClient = Answer.Corrupt
of_no_frame NoFrame.NoRoom = Answer.No NoRoom
of_no_frame NoFrame.Corrupt = Answer.Corrupt

-- why no run of frames is given
abbrev pub of_no_run : NoRun → Answer
of_no_run (NoRun.Unfit why) = Answer.Corrupt
of_no_run NoRun.NoClient = Answer.Corrupt
of_no_run NoRun.Empty = Answer.No NoFrames
of_no_run NoRun.NoRoom = Answer.No NoRoom
of_no_run NoRun.Corrupt = Answer.Corrupt

-- why a frame can't be given back
abbrev pub of_not_freed : NotFreed → Answer
of_not_freed (NotFreed.Unfit why) = Answer.Corrupt
of_not_freed NotFreed.NoClient = Answer.Corrupt
of_not_freed NotFreed.Below = Answer.No Below
of_not_freed NotFreed.NotAtFrame = Answer.No NotAtFrame
of_not_freed NotFreed.Outside = Answer.No Outside
of_not_freed NotFreed.NotTaken = Answer.No NotTaken
of_not_freed NotFreed.NotYours = Answer.No NotYours

-- why a run of frames can't be given back
abbrev pub of_run_not_freed : RunNotFreed → Answer
of_run_not_freed (RunNotFreed.Unfit why) = Answer.Corrupt
of_run_not_freed RunNotFreed.NoClient = Answer.Corrupt
of_run_not_freed RunNotFreed.Below = Answer.No Below
of_run_not_freed RunNotFreed.NotAtFrame = Answer.No NotAtFrame
of_run_not_freed RunNotFreed.Empty = Answer.No NoFrames
of_run_not_freed RunNotFreed.Outside = Answer.No Outside
of_run_not_freed (RunNotFreed.NotTaken k) = Answer.No NotTaken
of_run_not_freed (RunNotFreed.NotYours k) = Answer.No NotYours
