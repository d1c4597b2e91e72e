-- What the functions answer: t, o and w are the tree, the owners' bytes and the frames' words before, t', o' and w' after; remove changes no
-- word of a frame. `Clean`, `Backed`, `Zero` and `Wiped` are those of contents. What is said of the frames beside their words is
-- allocator_pool's. Assumes nothing.
use Rattle.owners.specs.Writes.{Kept}
use Rattle.std.specs.Prelude.{◌≡◌, List, ℕ, ◌+◌, ◌*◌, ◌^◌, ◌≤◌, ◌<◌, ⊤, Result, Ok, Err}
use Rattle.base.specs.Search.{Stops}
use Rattle.bitmap_tree.specs.Tree.{free, cap}
use Rattle.bitmap_looks.specs.Looks.{LowestLie}
use Rattle.owners.specs.States.{State.Reserved, State.Owned, state, Accounted}
use Rattle.owner_passes.specs.Passes as passes
use Rattle.claims.specs.Fits.{Fits, Misfit}
use Rattle.claims.specs.Offers.{Known}
use Rattle.claims.specs.Returns.{Changeable, Unchangeable}
use Rattle.allocator_pool.specs.declared.Unaccounted.{Unaccounted}
use Rattle.allocator_pool.specs.Looks.{FirstWrong}
use Rattle.allocator_pool.specs.Changes as shared
use Rattle.contents.specs.Contents.{frames_in, Backed, Zero, Wiped, WipedOf, Clean, KeptAll}
use Rattle.frames_pool.specs.declared.NotBegun.{NotBegun}
use Rattle.frames_pool.specs.declared.NotOpened.{NotOpened}
use Rattle.frames_pool.specs.declared.NotClosed.{NotClosed}
use Rattle.frames_pool.specs.declared.NotLeft.{NotLeft}
use Rattle.frames_pool.specs.declared.Unclean.{Unclean}

-- the contents are as many as they may be, and the rest fits
pub record Sized (base : ℕ) (t o w : List ℕ) : Type 0 where
  pub backed : Backed o w
  pub fits : Fits base t o

-- the frames with contents are free and all 0, all others are reserved, and the memories are clean
pub record Init (base : ℕ) (t o w t' o' w' : List ℕ) : Type 0 where
  pub sized : Sized base t o w
  pub begun : passes.Begun t o (frames_in w) t' o'
  pub wiped : Wiped w 0 (frames_in w) w'
  pub clean : Clean base t' o' w'

abbrev pub InitSays : ℕ → List ℕ → List ℕ → List ℕ → List ℕ → List ℕ → List ℕ → Result ⊤ NotBegun → Type 0
InitSays base t o w t' o' w' (Ok _) = Init base t o w t' o' w'
InitSays base t o w t' o' w' (Err NotBegun.Unbacked) = KeptAll t o w t' o' w' × (Backed o w → ⊥)
InitSays base t o w t' o' w' (Err NotBegun.TooHigh) = KeptAll t o w t' o' w' × Sized base t o w × (2 ^ 64 ≤ base + 4096 * frames_in w)
InitSays base t o w t' o' w' (Err (NotBegun.Unfit why)) = KeptAll t o w t' o' w' × Backed o w × Misfit base t o why

-- the frames from a up to b, none of which a client owned, are free and all 0 now
pub record OpenedAt (base : ℕ) (t o w : List ℕ) (a b : ℕ) (t' o' w' : List ℕ) : Type 0 where
  pub backed : Backed o w
  pub inside : b ≤ frames_in w
  pub opened : shared.Opened base t o a b t' o'
  pub wiped : Wiped w a b w'
  pub clean : Clean base t o w → Clean base t' o' w'

-- the frames from a up to b could be made free
pub record Openable (base : ℕ) (t o w : List ℕ) (a b : ℕ) : Type 0 where
  pub backed : Backed o w
  pub may : Changeable base t o a b

abbrev pub InsertSays : ℕ → List ℕ → List ℕ → List ℕ → ℕ → ℕ → List ℕ → List ℕ → List ℕ → Result ⊤ NotOpened → Type 0
InsertSays base t o w a b t' o' w' (Ok _) = OpenedAt base t o w a b t' o' w'
InsertSays base t o w a b t' o' w' (Err NotOpened.Unbacked) = KeptAll t o w t' o' w' × (Backed o w → ⊥)
InsertSays base t o w a b t' o' w' (Err NotOpened.TooHigh) = KeptAll t o w t' o' w' × Openable base t o w a b × (2 ^ 64 ≤ base + 4096 * b)
InsertSays base t o w a b t' o' w' (Err NotOpened.Beyond) = KeptAll t o w t' o' w' × Openable base t o w a b × (base + 4096 * b < 2 ^ 64) × (frames_in w < b)
InsertSays base t o w a b t' o' w' (Err (NotOpened.No why)) = KeptAll t o w t' o' w' × Backed o w × Unchangeable base t o a b why

-- the frames from a up to b, none of which a client owned, are reserved now
pub record ClosedAt (base : ℕ) (t o w : List ℕ) (a b : ℕ) (t' o' : List ℕ) : Type 0 where
  pub backed : Backed o w
  pub closed : shared.Closed base t o a b t' o'
  pub clean : Clean base t o w → Clean base t' o' w

abbrev pub RemoveSays : ℕ → List ℕ → List ℕ → List ℕ → ℕ → ℕ → List ℕ → List ℕ → Result ⊤ NotClosed → Type 0
RemoveSays base t o w a b t' o' (Ok _) = ClosedAt base t o w a b t' o'
RemoveSays base t o w a b t' o' (Err NotClosed.Unbacked) = Kept t o t' o' × (Backed o w → ⊥)
RemoveSays base t o w a b t' o' (Err (NotClosed.No why)) = Kept t o t' o' × Backed o w × Unchangeable base t o a b why

-- every frame of the client c is free and all 0 now, and nothing else changed
pub record Released (base : ℕ) (t o w : List ℕ) (c : ℕ) (t' o' w' : List ℕ) : Type 0 where
  pub backed : Backed o w
  pub known : Known base t o c
  pub inside : (k : ℕ) → frames_in w ≤ k → state t o k ≡ Owned c → ⊥
  pub released : passes.Released t o c t' o'
  pub wiped : WipedOf t o w c w'
  pub clean : Clean base t o w → Clean base t' o' w'

-- a frame of the client c has no contents
pub record Homeless (base : ℕ) (t o w : List ℕ) (c : ℕ) : Type 0 where
  pub backed : Backed o w
  pub known : Known base t o c
  pub frame : ℕ
  pub past : frames_in w ≤ frame
  pub mine : state t o frame ≡ Owned c

abbrev pub ReleaseSays : ℕ → List ℕ → List ℕ → List ℕ → ℕ → List ℕ → List ℕ → List ℕ → Result ⊤ NotLeft → Type 0
ReleaseSays base t o w c t' o' w' (Ok _) = Released base t o w c t' o' w'
ReleaseSays base t o w c t' o' w' (Err NotLeft.Unbacked) = KeptAll t o w t' o' w' × (Backed o w → ⊥)
ReleaseSays base t o w c t' o' w' (Err NotLeft.Corrupt) = KeptAll t o w t' o' w' × Homeless base t o w c
ReleaseSays base t o w c t' o' w' (Err NotLeft.NoClient) = KeptAll t o w t' o' w' × Sized base t o w × (64 ≤ c)
ReleaseSays base t o w c t' o' w' (Err (NotLeft.Unfit why)) = KeptAll t o w t' o' w' × Backed o w × Misfit base t o why

-- the memories are an allocator's, and k is the first frame without contents that is not reserved
pub record FirstBeyond (base : ℕ) (t o w : List ℕ) (k : ℕ) : Type 0 where
  pub accounted : Accounted base t o
  pub backed : Backed o w
  pub within : k < cap t
  pub stops : Stops (λ m. state t o m ≡ Reserved) (frames_in w) (cap t) k

-- the memories are an allocator's, all frames without contents are reserved, and k is the first free frame that is not all 0
pub record FirstDirty (base : ℕ) (t o w : List ℕ) (k : ℕ) : Type 0 where
  pub accounted : Accounted base t o
  pub backed : Backed o w
  pub beyond : (m : ℕ) → frames_in w ≤ m → state t o m ≡ Reserved
  pub within : k < frames_in w
  pub stops : Stops (λ m. free t m ≡ 1 → Zero w m) 0 (frames_in w) k

-- what is wrong with an allocator's memories, as a reason why they are not clean
abbrev pub unclean : Unaccounted → Unclean
unclean (Unaccounted.Lie p) = Unclean.Lie p
unclean (Unaccounted.Wrong k) = Unclean.Wrong k
unclean (Unaccounted.Unfit why) = Unclean.Unfit why

abbrev pub CheckSays : ℕ → List ℕ → List ℕ → List ℕ → Result ⊤ Unclean → Type 0
CheckSays base t o w (Ok _) = Clean base t o w
CheckSays base t o w (Err Unclean.Unbacked) = Backed o w → ⊥
CheckSays base t o w (Err (Unclean.Lie p)) = Sized base t o w × LowestLie t p
CheckSays base t o w (Err (Unclean.Wrong k)) = Backed o w × FirstWrong base t o k
CheckSays base t o w (Err (Unclean.Beyond k)) = FirstBeyond base t o w k
CheckSays base t o w (Err (Unclean.Dirty k)) = FirstDirty base t o w k
CheckSays base t o w (Err (Unclean.Unfit why)) = Backed o w × Misfit base t o why
