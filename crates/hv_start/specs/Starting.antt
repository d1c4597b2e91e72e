-- What `start` answers: s are the bytes, b the memories before, and b' after. Every refusal has b' ≡ b, and what was met before it.
-- Assumes nothing.
use Rattle.std.specs.Prelude.{◌≡◌, List, ℕ, ◌≤◌, ◌<◌, length, get_or, Result, Ok, Err}
use Rattle.config_model.specs.Config.{ConfigOk}
use Rattle.config_bytes.specs.Fields.{config_of, machines, count, Means}
use Rattle.config_view.specs.Table.{Table}
use Rattle.config.specs.Checking.{RefusedSays}
use Rattle.bitmap_tree.specs.Tree.{cap, Full}
use Rattle.owners.specs.States.{Matched}
use Rattle.contents.specs.Contents.{frames_in, Backed}
use Rattle.claims.specs.declared.Unfit.{Unfit}
use Rattle.machine.specs.Run as machine
use Rattle.zones.specs.Layout.{slots_in, Shaped}
use Rattle.hv_state.specs.Memory.{Mem, plan_of, decode, Sound}
use Rattle.hv_start.specs.declared.BadZones.{BadZones}
use Rattle.hv_start.specs.declared.BadFrames.{BadFrames}
use Rattle.hv_start.specs.declared.NotStarted.{NotStarted}

-- ---- what must be met, in this order

-- the table has its words, and the bytes mean a configuration that is right
pub record Right (s t : List ℕ) : Type 0 where
  pub long : length t ≡ 8325
  pub means : Means s
  pub ok : ConfigOk (config_of s)

-- the machines' words are exactly those of its machines, and each set has a slot for each region that its machine is given
pub record Roomy (s z : List ℕ) : Type 0 where
  pub shaped : Shaped z (machines s)
  pub slots : (m : ℕ) → m < machines s → count s m ≤ slots_in z (machines s)

-- the tree t is full, the owners o are as many as its frames, and the words w are those of whole frames, of as many as there are at most
pub record Lent (t o w : List ℕ) : Type 0 where
  pub matched : Matched t o
  pub backed : Backed o w

-- and the allocator's region has no more pages than the tree frames, and no fewer than frames that have words
pub record Framed (s t o w : List ℕ) : Type 0 where
  pub lent : Lent t o w
  pub pages : (config_of s).pool.pages ≤ cap t
  pub frames : frames_in w ≤ (config_of s).pool.pages

-- ---- what is not met

-- machine m, and none before it, is given more regions than a set has slots
pub record Crowded (s z : List ℕ) (m : ℕ) : Type 0 where
  pub shaped : Shaped z (machines s)
  pub machine : m < machines s
  pub more : slots_in z (machines s) < count s m
  pub first : (k : ℕ) → k < m → count s k ≤ slots_in z (machines s)

-- why the machines' words are not right
abbrev pub BadZonesSays : List ℕ → List ℕ → BadZones → Type 0
BadZonesSays s z BadZones.Wrong = Shaped z (machines s) → ⊥
BadZonesSays s z (BadZones.FewSlots m) = Crowded s z m

-- the allocator's region begins on a page, so that the base is never why
abbrev pub UnfitSays : List ℕ → List ℕ → Unfit → Type 0
UnfitSays t o Unfit.NotFull = Full (length t) → ⊥
UnfitSays t o Unfit.Unmatched = Full (length t) × (length o ≡ cap t → ⊥)
UnfitSays t o Unfit.BadBase = ⊥

-- why the frames' memories are not right
abbrev pub BadFramesSays : List ℕ → List ℕ → List ℕ → List ℕ → BadFrames → Type 0
BadFramesSays s t o w (BadFrames.Unfit why) = UnfitSays t o why
BadFramesSays s t o w BadFrames.Unbacked = Matched t o × (Backed o w → ⊥)
BadFramesSays s t o w BadFrames.FewFrames = Lent t o w × (cap t < (config_of s).pool.pages)
BadFramesSays s t o w BadFrames.FewPages = Lent t o w × ((config_of s).pool.pages ≤ cap t) × ((config_of s).pool.pages < frames_in w)

-- the first reason that there is
abbrev pub NotStartedSays : List ℕ → Mem → NotStarted → Type 0
NotStartedSays s b NotStarted.NoTable = length b.table ≡ 8325 → ⊥
NotStartedSays s b (NotStarted.Config why) = (length b.table ≡ 8325) × RefusedSays s why
NotStartedSays s b (NotStarted.Zones why) = Right s b.table × BadZonesSays s b.zones why
NotStartedSays s b (NotStarted.Frames why) = Right s b.table × Roomy s b.zones × BadFramesSays s b.tree b.owners b.words why

-- ---- what is made

-- the table is that of the configuration, and the memories are sound and mean the start's state: no machine is there, every set is empty,
-- the frames that have words are free and cleared, and all others are reserved
pub record WasStarted (s : List ℕ) (b b' : Mem) : Type 0 where
  pub right : Right s b.table
  pub table : Table (config_of s) b'.table
  pub sound : Sound b'
  pub state : decode b' ≡ machine.start (plan_of b')
  pub zones : length b'.zones ≡ length b.zones
  pub tree : length b'.tree ≡ length b.tree
  pub owners : length b'.owners ≡ length b.owners
  pub words : length b'.words ≡ length b.words

-- what a start does, or why it does nothing
abbrev pub StartSays : List ℕ → Mem → Mem → Result Unit NotStarted → Type 0
StartSays s b b' (Ok _) = WasStarted s b b'
StartSays s b b' (Err why) = (b' ≡ b) × NotStartedSays s b why

-- ---- the steps

-- whether the machines' words have room
abbrev pub RoomSays : List ℕ → List ℕ → Result Unit BadZones → Type 0
RoomSays s z (Ok _) = Roomy s z
RoomSays s z (Err why) = BadZonesSays s z why

-- where the allocator's frames begin, or why the memories are not theirs
abbrev pub FramesSays : List ℕ → List ℕ → List ℕ → List ℕ → Result ℕ BadFrames → Type 0
FramesSays s t o w (Ok base) = Framed s t o w × (base ≡ (config_of s).pool.host)
FramesSays s t o w (Err why) = BadFramesSays s t o w why

-- all is as it must be
pub record Ready (s : List ℕ) (b : Mem) : Type 0 where
  pub right : Right s b.table
  pub room : Roomy s b.zones
  pub frames : Framed s b.tree b.owners b.words

-- where the allocator's frames begin, or what is not as it must be
abbrev pub MayStartSays : List ℕ → Mem → Result ℕ NotStarted → Type 0
MayStartSays s b (Ok base) = Ready s b × (base ≡ (config_of s).pool.host)
MayStartSays s b (Err why) = NotStartedSays s b why

-- as many words, all of them 0
pub record Zeros (z z' : List ℕ) : Type 0 where
  pub long : length z' ≡ length z
  pub zero : (k : ℕ) → get_or z' k 0 ≡ 0
