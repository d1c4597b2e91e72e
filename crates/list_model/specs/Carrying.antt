-- The requests f 0, f 1, .. of one machine, one after the other, from the state s before the first. Assumes nothing.
use Rattle.std.specs.Prelude.{Bool, false, ℕ, zero, suc, ◌-◌, ◌/◌}
use Rattle.base.specs.Choices.{pick, within}
use Rattle.owners.specs.States as frames
use Rattle.machine.specs.declared.Request.{Request}
use Rattle.machine.specs.declared.Request.TheVariants.{AddZone, RemoveZone, RemoveZoneWhole, Insert, Remove, Translate, Alloc, AllocContiguous, Dealloc, DeallocContiguous}
use Rattle.machine.specs.declared.Answer.{Answer}
use Rattle.machine.specs.State.{Plan, State, is_mine}
use Rattle.machine.specs.Step.{step}

-- the state after the first i
abbrev pub state_after : Plan → State → ℕ → (ℕ → Request) → ℕ → State
state_after p s number f zero = s
state_after p s number f (suc i) = (step p (state_after p s number f i) number (f i)).state

-- what request i is answered
abbrev pub answer_to : Plan → State → ℕ → (ℕ → Request) → ℕ → Answer
answer_to p s number f i = (step p (state_after p s number f i) number (f i)).answer

-- ---- contents

-- the same state with all contents 0
abbrev pub blank : State → State
blank s = record { present = s.present; set = s.set; frame = s.frame; word = λ j. 0 }

-- machine m's request, which was done, frees frame k: `frame` is whose each frame was before the first request, and `first` the address of frame 0
abbrev pub frees : ℕ → (ℕ → frames.State) → ℕ → Request → ℕ → Bool
frees first frame m AddZone k = false
frees first frame m RemoveZone k = false
frees first frame m RemoveZoneWhole k = is_mine m (frame k)
frees first frame m (Insert w r) k = false
frees first frame m (Remove w r) k = false
frees first frame m (Translate w addr) k = false
frees first frame m Alloc k = false
frees first frame m (AllocContiguous n a) k = false
frees first frame m (Dealloc addr) k = within ((addr - first) / 4096) 1 k
frees first frame m (DeallocContiguous addr n) k = within ((addr - first) / 4096) n k

-- word j, which was `word`, once every frame that one of the first i requests frees is cleared
abbrev pub cleared_by : ℕ → (ℕ → frames.State) → ℕ → (ℕ → Request) → ℕ → ℕ → ℕ → ℕ
cleared_by first frame m f zero j word = word
cleared_by first frame m f (suc i) j word = pick (frees first frame m (f i) (j / 512)) 0 (cleared_by first frame m f i j word)
