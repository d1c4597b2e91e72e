-- What stands in the frames: w is a list of words of 64 bits, 512 for each frame that may become free, and w' what they are after a change.
-- Assumes nothing.
use Rattle.std.specs.Prelude.{◌≡◌, List, ℕ, ◌+◌, ◌*◌, ◌/◌, ◌%◌, ◌≤◌, ◌<◌, length, get_or}
use Rattle.base.specs.Ranges.{Outside}
use Rattle.owners.specs.States.{State.Free, State.Reserved, State.Owned, state, Accounted}

-- how many frames have contents
abbrev pub frames_in : List ℕ → ℕ
frames_in w = length w / 512

-- the contents are those of whole frames, of as many as there are owners' bytes at most
pub record Backed (o w : List ℕ) : Type 0 where
  pub whole : length w % 512 ≡ 0
  pub few : frames_in w ≤ length o

-- every word of frame k is 0
abbrev pub Zero : List ℕ → ℕ → Type 0
Zero w k = (i : ℕ) → i < 512 → get_or w (512 * k + i) 0 ≡ 0

-- every word of frame k is as it was
abbrev pub Same : List ℕ → List ℕ → ℕ → Type 0
Same w w' k = (i : ℕ) → i < 512 → get_or w' (512 * k + i) 0 ≡ get_or w (512 * k + i) 0

-- the frames from a up to b are all 0, and no other frame's words changed
pub record Wiped (w : List ℕ) (a b : ℕ) (w' : List ℕ) : Type 0 where
  pub long : length w' ≡ length w
  pub inside : (k : ℕ) → a ≤ k → k < b → Zero w' k
  pub outside : (k : ℕ) → Outside a b k → Same w w' k

-- the frames of the client c that have contents are all 0, and no other frame's words changed
pub record WipedOf (t o w : List ℕ) (c : ℕ) (w' : List ℕ) : Type 0 where
  pub long : length w' ≡ length w
  pub mine : (k : ℕ) → k < frames_in w → state t o k ≡ Owned c → Zero w' k
  pub others : (k : ℕ) → (state t o k ≡ Owned c → ⊥) → Same w w' k

-- the memories are an allocator's; every frame that has no contents is reserved, and every free frame is all 0
pub record Clean (base : ℕ) (t o w : List ℕ) : Type 0 where
  pub accounted : Accounted base t o
  pub backed : Backed o w
  pub beyond : (k : ℕ) → frames_in w ≤ k → state t o k ≡ Reserved
  pub zero : (k : ℕ) → state t o k ≡ Free → Zero w k

-- every word and byte is as it was
pub record KeptAll (t o w t' o' w' : List ℕ) : Type 0 where
  pub tree : t' ≡ t
  pub bytes : o' ≡ o
  pub words : w' ≡ w
