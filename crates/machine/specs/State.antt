-- What there is: a plan, which never changes, and a state. A machine is named by its place in the configuration. Assumes nothing.
use Rattle.std.specs.Prelude.{Bool, true, false, List, [], ℕ, ◌+◌, ◌*◌, ◌/◌, eqb}
use Rattle.base.specs.Choices.{pick, at, at_run}
use Rattle.address.specs.declared.Region.{Region}
use Rattle.config_model.specs.Config.{Config}
use Rattle.owners.specs.States as frames
use Rattle.owners.specs.States.{State.Free, State.Reserved, State.Owned}
use Rattle.machine.specs.declared.Which.{Which}
use Rattle.machine.specs.declared.Which.TheVariants.{Processors, Devices}
use Rattle.machine.specs.declared.Reason.{Reason}
use Rattle.machine.specs.declared.Answer.{Answer}

-- what is fixed at the start
pub record Plan : Type 0 where
  pub config : Config
  -- for how many regions a set has room
  pub slots : ℕ
  -- how many frames there are, and how many of them, from the first on, machines can own
  pub frames : ℕ
  pub usable : ℕ

-- what changes
pub record State : Type 0 where
  -- which machines are there
  pub present : ℕ → Bool
  -- the regions of each machine's two sets
  pub set : ℕ → Which → List Region
  -- whose each frame is
  pub frame : ℕ → frames.State
  -- the contents: frame k has the 512 words from 512 k on
  pub word : ℕ → ℕ

-- an answer, and the state afterwards
pub record Outcome : Type 0 where
  pub answer : Answer
  pub state : State

abbrev pub out : Answer → State → Outcome
out a s = record { answer = a; state = s }

-- a refusal
abbrev pub refuse : Reason → State → Outcome
refuse why s = out (Answer.No why) s

-- ---- frames

abbrev pub is_free : frames.State → Bool
is_free Free = true
is_free Reserved = false
is_free (Owned c) = false

abbrev pub is_mine : ℕ → frames.State → Bool
is_mine m Free = false
is_mine m Reserved = false
is_mine m (Owned c) = eqb c m

-- the host address of frame k
abbrev pub address_of : Plan → ℕ → ℕ
address_of p k = p.config.pool.host + 4096 * k

-- ---- states that differ from s in one thing

abbrev pub with_present : State → ℕ → Bool → State
with_present s m b = record { present = at s.present m b; set = s.set; frame = s.frame; word = s.word }

-- two sets, of which one is l now
abbrev pub change : Which → List Region → (Which → List Region) → Which → List Region
change Processors l f Processors = l
change Processors l f Devices = f Devices
change Devices l f Processors = f Processors
change Devices l f Devices = l

abbrev pub with_set : State → ℕ → Which → List Region → State
with_set s m w l = record { present = s.present; set = at s.set m (change w l (s.set m)); frame = s.frame; word = s.word }

-- the n frames from k on are m's
abbrev pub taken : State → ℕ → ℕ → ℕ → State
taken s m k n = record { present = s.present; set = s.set; frame = at_run s.frame k n (Owned m); word = s.word }

-- m is gone, with its regions and its frames, which are free and cleared
abbrev pub gone : State → ℕ → State
gone s m =
    record {
      present = at s.present m false;
      set = at s.set m (λ w. []);
      frame = λ k. pick (is_mine m (s.frame k)) Free (s.frame k);
      word = λ j. pick (is_mine m (s.frame (j / 512))) 0 (s.word j);
    }

-- the n frames from k on are free, and cleared
abbrev pub freed : State → ℕ → ℕ → State
freed s k n = record { present = s.present; set = s.set; frame = at_run s.frame k n Free; word = λ j. at_run (λ i. s.word j) k n 0 (j / 512) }
