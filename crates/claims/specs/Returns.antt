-- Which frames may be given back by the client c, and which may be made free or reserved. Assumes nothing.
use Rattle.std.specs.Prelude.{◌≡◌, List, ℕ, ◌+◌, ◌*◌, ◌≤◌, ◌<◌, ⊤, Result, Ok, Err}
use Rattle.base.specs.Search.{Stops}
use Rattle.bitmap_tree.specs.Tree.{cap}
use Rattle.owners.specs.States.{State.Free, State.Owned, state, HasOwner, Unowned}
use Rattle.claims.specs.declared.NotAFrame.{NotAFrame}
use Rattle.claims.specs.declared.NotFreed.{NotFreed}
use Rattle.claims.specs.declared.NotFreed.TheVariants.{Below as below, NotAtFrame as not_at_frame}
use Rattle.claims.specs.declared.RunNotFreed.{RunNotFreed}
use Rattle.claims.specs.declared.RunNotFreed.TheVariants.{Below as run_below, NotAtFrame as run_not_at_frame}
use Rattle.claims.specs.declared.NotChanged.{NotChanged}
use Rattle.claims.specs.Fits.{Fits, Misfit}
use Rattle.claims.specs.Offers.{Known}

-- no frame is at an address from the base on
pub record Between (base addr : ℕ) : Type 0 where
  pub above : base ≤ addr
  pub none : (k : ℕ) → addr ≡ base + 4096 * k → ⊥

abbrev pub NumberSays : ℕ → ℕ → Result ℕ NotAFrame → Type 0
NumberSays base addr (Ok k) = addr ≡ base + 4096 * k
NumberSays base addr (Err NotAFrame.Below) = addr < base
NumberSays base addr (Err NotAFrame.NotAtFrame) = Between base addr

-- an address at which a frame k would stand that meets P, for a known client
pub record At (base : ℕ) (t o : List ℕ) (c addr : ℕ) (P : ℕ → Type 0) : Type 0 where
  pub known : Known base t o c
  pub frame : ℕ
  pub place : addr ≡ base + 4096 * frame
  pub is : P frame

-- frame k is there and is neither free nor the client c's
pub record NotMine (t o : List ℕ) (c k : ℕ) : Type 0 where
  pub within : k < cap t
  pub taken : state t o k ≡ Free → ⊥
  pub other : state t o k ≡ Owned c → ⊥

-- no frame at an address, as a reason why a frame, or a run, can't be given back
abbrev pub not_freed : NotAFrame → NotFreed
not_freed NotAFrame.Below = below
not_freed NotAFrame.NotAtFrame = not_at_frame

abbrev pub run_not_freed : NotAFrame → RunNotFreed
run_not_freed NotAFrame.Below = run_below
run_not_freed NotAFrame.NotAtFrame = run_not_at_frame

-- the first reason why the frame at an address can't be given back
abbrev pub Refused : ℕ → List ℕ → List ℕ → ℕ → ℕ → NotFreed → Type 0
Refused base t o c addr (NotFreed.Unfit why) = Misfit base t o why
Refused base t o c addr NotFreed.NoClient = Fits base t o × (64 ≤ c)
Refused base t o c addr NotFreed.Below = Known base t o c × (addr < base)
Refused base t o c addr NotFreed.NotAtFrame = Known base t o c × Between base addr
Refused base t o c addr NotFreed.Outside = At base t o c addr (λ k. cap t ≤ k)
Refused base t o c addr NotFreed.NotTaken = At base t o c addr (λ k. state t o k ≡ Free)
Refused base t o c addr NotFreed.NotYours = At base t o c addr (NotMine t o c)

-- the frame k stands at the address and is the client c's
pub record Mine (base : ℕ) (t o : List ℕ) (c addr k : ℕ) : Type 0 where
  pub known : Known base t o c
  pub place : addr ≡ base + 4096 * k
  pub within : k < cap t
  pub owned : state t o k ≡ Owned c

abbrev pub MayFreeSays : ℕ → List ℕ → List ℕ → ℕ → ℕ → Result ℕ NotFreed → Type 0
MayFreeSays base t o c addr (Ok k) = Mine base t o c addr k
MayFreeSays base t o c addr (Err why) = Refused base t o c addr why

-- r is the first of the count frames from k on that is not the client c's
pub record FirstOther (t o : List ℕ) (c count k r : ℕ) : Type 0 where
  pub some : 0 < count
  pub fits : k + count ≤ cap t
  pub before : r < k + count
  pub stops : Stops (λ m. state t o m ≡ Owned c) k (k + count) r

-- the first reason why the count frames from an address on can't be given back
abbrev pub RunRefused : ℕ → List ℕ → List ℕ → ℕ → ℕ → ℕ → RunNotFreed → Type 0
RunRefused base t o c addr count (RunNotFreed.Unfit why) = Misfit base t o why
RunRefused base t o c addr count RunNotFreed.NoClient = Fits base t o × (64 ≤ c)
RunRefused base t o c addr count RunNotFreed.Below = Known base t o c × (addr < base)
RunRefused base t o c addr count RunNotFreed.NotAtFrame = Known base t o c × Between base addr
RunRefused base t o c addr count RunNotFreed.Empty = At base t o c addr (λ k. count ≡ 0)
RunRefused base t o c addr count RunNotFreed.Outside = At base t o c addr (λ k. (0 < count) × (cap t < k + count))
RunRefused base t o c addr count (RunNotFreed.NotTaken r) = At base t o c addr (λ k. FirstOther t o c count k r × (state t o r ≡ Free))
RunRefused base t o c addr count (RunNotFreed.NotYours r) = At base t o c addr (λ k. FirstOther t o c count k r × NotMine t o c r)

-- the count frames from k on, the first of which stands at the address, are the client c's
pub record RunMine (base : ℕ) (t o : List ℕ) (c addr count k : ℕ) : Type 0 where
  pub known : Known base t o c
  pub some : 0 < count
  pub place : addr ≡ base + 4096 * k
  pub within : k + count ≤ cap t
  pub owned : (m : ℕ) → k ≤ m → m < k + count → state t o m ≡ Owned c

abbrev pub MayFreeRunSays : ℕ → List ℕ → List ℕ → ℕ → ℕ → ℕ → Result ℕ RunNotFreed → Type 0
MayFreeRunSays base t o c addr count (Ok k) = RunMine base t o c addr count k
MayFreeRunSays base t o c addr count (Err why) = RunRefused base t o c addr count why

-- the frames from a up to b are there, one at least
pub record Range (base : ℕ) (t o : List ℕ) (a b : ℕ) : Type 0 where
  pub fits : Fits base t o
  pub some : a < b
  pub within : b ≤ cap t

-- r is the first frame of the range that a client owns
pub record FirstOwned (base : ℕ) (t o : List ℕ) (a b r : ℕ) : Type 0 where
  pub range : Range base t o a b
  pub stops : Stops (Unowned t o) a b r
  pub before : r < b
  pub owned : HasOwner t o r

-- the first reason why a range can't be made free or reserved
abbrev pub Unchangeable : ℕ → List ℕ → List ℕ → ℕ → ℕ → NotChanged → Type 0
Unchangeable base t o a b (NotChanged.Unfit why) = Misfit base t o why
Unchangeable base t o a b NotChanged.Empty = Fits base t o × (a ≡ b)
Unchangeable base t o a b NotChanged.Reversed = Fits base t o × (b < a)
Unchangeable base t o a b NotChanged.Outside = Fits base t o × (a < b) × (cap t < b)
Unchangeable base t o a b (NotChanged.Taken r) = FirstOwned base t o a b r

-- no client owns a frame of the range
pub record Changeable (base : ℕ) (t o : List ℕ) (a b : ℕ) : Type 0 where
  pub range : Range base t o a b
  pub unowned : (k : ℕ) → a ≤ k → k < b → Unowned t o k

abbrev pub MayChangeSays : ℕ → List ℕ → List ℕ → ℕ → ℕ → Result ⊤ NotChanged → Type 0
MayChangeSays base t o a b (Ok _) = Changeable base t o a b
MayChangeSays base t o a b (Err why) = Unchangeable base t o a b why
