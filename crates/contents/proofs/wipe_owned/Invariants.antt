-- What the loop of `contents::wipe_owned` keeps. Assumes nothing.
use Rattle.contents.proofs.Words.{Wiping}
use Rattle.contents.proofs.wipe_owned.Given as goal

abbrev pub invariant-loop-k : goal.invariant-loop-k
invariant-loop-k l = Wiping l.tree l.owners l.initial.words l.c l.k l.words
