-- What the functions answer: t, o and w are the tree, the owners' bytes and the frames' words before, t', o' and w' after; alloc changes no
-- word of a frame. `Clean`, `Backed`, `Zero` and `Wiped` are those of contents. What is said of the frames beside their words is
-- global_allocator's. Assumes nothing.
use Rattle.owners.specs.Writes.{Kept}
use Rattle.std.specs.Prelude.{List, ℕ, ◌+◌, ◌≤◌, ◌<◌, ⊤, Result, Ok, Err}
use Rattle.claims.specs.declared.NoFrame.{NoFrame}
use Rattle.claims.specs.declared.NoRun.{NoRun}
use Rattle.claims.specs.declared.NotFreed.{NotFreed}
use Rattle.claims.specs.declared.RunNotFreed.{RunNotFreed}
use Rattle.claims.specs.Offers.{Denied, RunDenied}
use Rattle.claims.specs.Returns.{Mine, Refused, RunMine, RunRefused}
use Rattle.global_allocator.specs.Changes as shared
use Rattle.contents.specs.Contents.{frames_in, Backed, Zero, Wiped, Clean, KeptAll}
use Rattle.frames.specs.declared.NotGiven.{NotGiven}
use Rattle.frames.specs.declared.NotReturned.{NotReturned}

-- the frame at the address is the client c's now, and empty
pub record Gave (base : ℕ) (t o w : List ℕ) (c addr : ℕ) (t' o' : List ℕ) : Type 0 where
  pub backed : Backed o w
  pub gave : shared.Gave base t o c addr t' o'
  pub empty : Clean base t o w → Zero w gave.frame
  pub clean : Clean base t o w → Clean base t' o' w

abbrev pub AllocSays : ℕ → List ℕ → List ℕ → List ℕ → ℕ → List ℕ → List ℕ → Result ℕ (NotGiven NoFrame) → Type 0
AllocSays base t o w c t' o' (Ok addr) = Gave base t o w c addr t' o'
AllocSays base t o w c t' o' (Err NotGiven.Unbacked) = Kept t o t' o' × (Backed o w → ⊥)
AllocSays base t o w c t' o' (Err (NotGiven.No why)) = Kept t o t' o' × Backed o w × Denied base t o c why

-- the run at the address is the client c's now, and all its frames are empty
pub record GaveRun (base : ℕ) (t o w : List ℕ) (c size a addr : ℕ) (t' o' : List ℕ) : Type 0 where
  pub backed : Backed o w
  pub gave : shared.GaveRun base t o c size a addr t' o'
  pub empty : Clean base t o w → (k : ℕ) → gave.first ≤ k → k < gave.first + size → Zero w k
  pub clean : Clean base t o w → Clean base t' o' w

abbrev pub RunSays : ℕ → List ℕ → List ℕ → List ℕ → ℕ → ℕ → ℕ → List ℕ → List ℕ → Result ℕ (NotGiven NoRun) → Type 0
RunSays base t o w c size a t' o' (Ok addr) = GaveRun base t o w c size a addr t' o'
RunSays base t o w c size a t' o' (Err NotGiven.Unbacked) = Kept t o t' o' × (Backed o w → ⊥)
RunSays base t o w c size a t' o' (Err (NotGiven.No why)) = Kept t o t' o' × Backed o w × RunDenied base t o c size a why

-- the frame at the address was the client c's, and is free and all 0 now
pub record TookBack (base : ℕ) (t o w : List ℕ) (c addr : ℕ) (t' o' w' : List ℕ) : Type 0 where
  pub backed : Backed o w
  pub took : shared.TookBack base t o c addr t' o'
  pub inside : took.frame < frames_in w
  pub wiped : Wiped w took.frame (took.frame + 1) w'
  pub clean : Clean base t o w → Clean base t' o' w'

-- frame k at the address is the client c's, but has no contents
pub record Missing (base : ℕ) (t o w : List ℕ) (c addr : ℕ) : Type 0 where
  pub backed : Backed o w
  pub frame : ℕ
  pub mine : Mine base t o c addr frame
  pub past : frames_in w ≤ frame

abbrev pub DeallocSays : ℕ → List ℕ → List ℕ → List ℕ → ℕ → ℕ → List ℕ → List ℕ → List ℕ → Result ⊤ (NotReturned NotFreed) → Type 0
DeallocSays base t o w c addr t' o' w' (Ok _) = TookBack base t o w c addr t' o' w'
DeallocSays base t o w c addr t' o' w' (Err NotReturned.Unbacked) = KeptAll t o w t' o' w' × (Backed o w → ⊥)
DeallocSays base t o w c addr t' o' w' (Err NotReturned.Corrupt) = KeptAll t o w t' o' w' × Missing base t o w c addr
DeallocSays base t o w c addr t' o' w' (Err (NotReturned.No why)) = KeptAll t o w t' o' w' × Backed o w × Refused base t o c addr why

-- the count frames from the address on were the client c's, and are free and all 0 now
pub record TookRunBack (base : ℕ) (t o w : List ℕ) (c addr count : ℕ) (t' o' w' : List ℕ) : Type 0 where
  pub backed : Backed o w
  pub took : shared.TookRunBack base t o c addr count t' o'
  pub inside : took.first + count ≤ frames_in w
  pub wiped : Wiped w took.first (took.first + count) w'
  pub clean : Clean base t o w → Clean base t' o' w'

-- the count frames from k on are the client c's, but the last has no contents
pub record RunMissing (base : ℕ) (t o w : List ℕ) (c addr count : ℕ) : Type 0 where
  pub backed : Backed o w
  pub first : ℕ
  pub mine : RunMine base t o c addr count first
  pub past : frames_in w < first + count

abbrev pub DeallocRunSays : ℕ → List ℕ → List ℕ → List ℕ → ℕ → ℕ → ℕ → List ℕ → List ℕ → List ℕ → Result ⊤ (NotReturned RunNotFreed) → Type 0
DeallocRunSays base t o w c addr count t' o' w' (Ok _) = TookRunBack base t o w c addr count t' o' w'
DeallocRunSays base t o w c addr count t' o' w' (Err NotReturned.Unbacked) = KeptAll t o w t' o' w' × (Backed o w → ⊥)
DeallocRunSays base t o w c addr count t' o' w' (Err NotReturned.Corrupt) = KeptAll t o w t' o' w' × RunMissing base t o w c addr count
DeallocRunSays base t o w c addr count t' o' w' (Err (NotReturned.No why)) = KeptAll t o w t' o' w' × Backed o w × RunRefused base t o c addr count why
