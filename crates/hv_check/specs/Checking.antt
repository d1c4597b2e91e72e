-- What is answered of the memories: `Sound` exactly if they are, and else the first reason why not. c is the configuration, z are the
-- machines' words, whose sets have so many slots. Assumes nothing.
use Rattle.std.specs.Prelude.{◌≡◌, Bool, true, List, ℕ, ◌≤◌, ◌<◌, get_or, Result, Ok, Err}
use Rattle.base.specs.Search.{Stops}
use Rattle.bitmap_tree.specs.Tree.{cap}
use Rattle.owners.specs.States.{State, State.Free, State.Reserved, State.Owned, state}
use Rattle.contents.specs.Contents.{frames_in, Clean}
use Rattle.config_model.specs.Config.{Config}
use Rattle.config_view.specs.Table.{table_config}
use Rattle.config.specs.Tables.{Writable}
use Rattle.machine.specs.declared.Which.{Which}
use Rattle.machine.specs.declared.Which.TheVariants.{Processors, Devices}
use Rattle.zones.specs.Layout.{slots_in, place_of, set_at, Shaped}
use Rattle.hv_set_right.specs.Right.{SetRight}
use Rattle.hv_state.specs.Memory.{Mem, config_in, base_in, slots_of, present_in, Sound}
use Rattle.hv_check.specs.declared.Fault.{Fault}
use Rattle.hv_check.specs.declared.NotSound.{NotSound}

-- ---- machines

-- the words are those of n machines, whose sets have so many slots
pub record Laid (z : List ℕ) (n slots : ℕ) : Type 0 where
  pub shaped : Shaped z n
  pub is : slots ≡ slots_in z n
  pub few : n ≤ 64

-- a set of machine m is right
abbrev pub SetOf : Config → List ℕ → ℕ → ℕ → Which → Type 0
SetOf c z slots m w = SetRight c z m w (get_or z (place_of slots m) 0) (set_at (place_of slots m) slots w) slots

-- the words of machine m are right
pub record MachineRight (c : Config) (z : List ℕ) (slots m : ℕ) : Type 0 where
  pub room : c.count m ≤ slots
  pub flag : get_or z (place_of slots m) 0 < 2
  pub sets : (w : Which) → SetOf c z slots m w

-- the first reason why they are not
abbrev pub FaultSays : Config → List ℕ → ℕ → ℕ → Fault → Type 0
FaultSays c z slots m Fault.FewSlots = slots < c.count m
FaultSays c z slots m Fault.Presence = (c.count m ≤ slots) × (2 ≤ get_or z (place_of slots m) 0)
FaultSays c z slots m Fault.Processors = (c.count m ≤ slots) × (get_or z (place_of slots m) 0 < 2) × (SetOf c z slots m Processors → ⊥)
FaultSays c z slots m Fault.Devices = (c.count m ≤ slots) × (get_or z (place_of slots m) 0 < 2) × SetOf c z slots m Processors × (SetOf c z slots m Devices → ⊥)

-- whether they are
abbrev pub JudgeSays : Config → List ℕ → ℕ → ℕ → Result Unit Fault → Type 0
JudgeSays c z slots m (Ok _) = MachineRight c z slots m
JudgeSays c z slots m (Err why) = FaultSays c z slots m why

-- machine m is the first whose words are not right
pub record FirstWrong (c : Config) (z : List ℕ) (slots m : ℕ) (why : Fault) : Type 0 where
  pub machine : m < c.machines
  pub before : (k : ℕ) → k < m → MachineRight c z slots k
  pub is : FaultSays c z slots m why

-- whether the words of all machines are right
abbrev pub AllSays : Config → List ℕ → ℕ → Result Unit (ℕ × Fault) → Type 0
AllSays c z slots (Ok _) = (m : ℕ) → m < c.machines → MachineRight c z slots m
AllSays c z slots (Err e) = FirstWrong c z slots e.0 e.1

-- the table t is right, and so are the words of its n machines
pub record Machines (t z : List ℕ) (n slots : ℕ) : Type 0 where
  pub table : Writable t
  pub number : n ≡ (table_config t).machines
  pub laid : Laid z n slots
  pub right : (m : ℕ) → m < (table_config t).machines → MachineRight (table_config t) z slots m

-- ---- frames

-- a frame with contents is free, or owned by a client that is there
abbrev pub FrameRight : (ℕ → Bool) → State → Type 0
FrameRight here Free = Unit
FrameRight here Reserved = ⊥
FrameRight here (Owned m) = here m ≡ true

-- frame k of the memories is
abbrev pub FrameOf : Mem → ℕ → Type 0
FrameOf b k = FrameRight (present_in b.zones (config_in b).machines) (state b.tree b.owners k)

-- k is the first frame with contents that is not
pub record FirstFrame (b : Mem) (k : ℕ) : Type 0 where
  pub within : k < frames_in b.words
  pub stops : Stops (FrameOf b) 0 (frames_in b.words) k

-- ---- the memories

-- for this reason the memories are not sound
abbrev pub Unsound : Mem → Type 0 → Type 0
Unsound b Reason = Reason × (Sound b → ⊥)

-- the table and the machines' words are right
abbrev pub InOrder : Mem → Type 0
InOrder b = Machines b.table b.zones (config_in b).machines (slots_of b)

-- and the frames are clean
abbrev pub IsClean : Mem → Type 0
IsClean b = Clean (base_in b) b.tree b.owners b.words

-- each reason stands behind what was met before it
abbrev pub CheckSays : Mem → Result Unit NotSound → Type 0
CheckSays b (Ok _) = Sound b
CheckSays b (Err NotSound.Table) = Unsound b (Writable b.table → ⊥)
CheckSays b (Err NotSound.Zones) = Unsound b (Writable b.table × (Shaped b.zones (config_in b).machines → ⊥))
CheckSays b (Err (NotSound.Machine m why)) = Unsound b (Writable b.table × Shaped b.zones (config_in b).machines × FirstWrong (config_in b) b.zones (slots_of b) m why)
CheckSays b (Err NotSound.Frames) = Unsound b (InOrder b × (IsClean b → ⊥))
CheckSays b (Err NotSound.FewFrames) = Unsound b (InOrder b × IsClean b × (cap b.tree < (config_in b).pool.pages))
CheckSays b (Err NotSound.FewPages) = Unsound b (InOrder b × IsClean b × ((config_in b).pool.pages ≤ cap b.tree) × ((config_in b).pool.pages < frames_in b.words))
CheckSays b (Err (NotSound.Frame k)) = Unsound b (InOrder b × IsClean b × ((config_in b).pool.pages ≤ cap b.tree) × (frames_in b.words ≤ (config_in b).pool.pages) × FirstFrame b k)
