-- Sequences of what happens: requests, and what machines write into frames that they own. Assumes nothing.
use Rattle.std.specs.Prelude.{false, List, [], ◌∷◌, ℕ, ◌/◌, ltb}
use Rattle.base.specs.Choices.{pick, both, at}
use Rattle.owners.specs.States.{State.Free, State.Reserved}
use Rattle.machine.specs.State.{Plan, State, is_mine}
use Rattle.machine.specs.Lists.{Call, call}

-- a request or a list of them, of the machine that has a number; or that machine m writes a word of the frames
pub data Event : Type 0 where
  Asks : ℕ → Call → Event
  Writes : ℕ → ℕ → ℕ → Event

-- the state with the word j written by machine m, if m is there and owns its frame; nothing else can be written
abbrev pub written : State → ℕ → ℕ → ℕ → State
written s m j v = record { present = s.present; set = s.set; frame = s.frame; word = pick (both (s.present m) (is_mine m (s.frame (j / 512)))) (at s.word j v) s.word }

-- the state after an event
abbrev pub after : Plan → State → Event → State
after p s (Asks number c) = (call p s number c).state
after p s (Writes m j v) = written s m j v

-- the state after a sequence of events, in their order
abbrev pub run : Plan → State → List Event → State
run p s [] = s
run p s (x ∷ xs) = run p (after p s x) xs

-- the state at the start: no machine, and every usable frame free and cleared
abbrev pub start : Plan → State
start p = record { present = λ m. false; set = λ m w. []; frame = λ k. pick (ltb k p.usable) Free Reserved; word = λ j. 0 }
