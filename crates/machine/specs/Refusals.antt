-- A refusal as an answer. Assumes nothing.
use Rattle.machine.specs.declared.Answer.{Answer}
use Rattle.machine.specs.declared.Refusal.{Refusal}

-- what a machine is answered that is refused
abbrev pub refused : Refusal → Answer
refused (Refusal.No why) = Answer.No why
refused Refusal.Corrupt = Answer.Corrupt
