-- Which frames an allocation would give the client c. Assumes nothing.
use Rattle.std.specs.Prelude.{◌≡◌, List, ℕ, ◌+◌, ◌*◌, ◌%◌, ◌^◌, ◌≤◌, ◌<◌, get_or, Result, Ok, Err}
use Rattle.bitmap_tree.specs.Tree.{cap, Agree}
use Rattle.owners.specs.States.{State.Free, state, Placed, Accounted}
use Rattle.bitmap_search.specs.declared.Missed.{Missed}
use Rattle.claims.specs.declared.NoFrame.{NoFrame}
use Rattle.claims.specs.declared.NoRun.{NoRun}
use Rattle.claims.specs.Fits.{Fits, Misfit}

-- the memories fit, and there is a client c
pub record Known (base : ℕ) (t o : List ℕ) (c : ℕ) : Type 0 where
  pub fits : Fits base t o
  pub client : c < 64

-- frame k is free and has its place; where the summaries agree it is the lowest that is free
pub record Offered (base : ℕ) (t o : List ℕ) (c k : ℕ) : Type 0 where
  pub known : Known base t o c
  pub within : k < cap t
  pub free : state t o k ≡ Free
  pub placed : Placed base k
  pub lowest : Agree t → (m : ℕ) → m < k → state t o m ≡ Free → ⊥

-- what a search missed, as a reason why no frame, or no run, is given
abbrev pub no_frame : Missed → NoFrame
no_frame Missed.Nothing = NoFrame.NoRoom
no_frame Missed.Corrupt = NoFrame.Corrupt

abbrev pub no_run : Missed → NoRun
no_run Missed.Nothing = NoRun.NoRoom
no_run Missed.Corrupt = NoRun.Corrupt

-- the first reason why no frame is given; "no room" has a root that is 0, and so is given exactly if no frame is free where the summaries
-- agree
abbrev pub Denied : ℕ → List ℕ → List ℕ → ℕ → NoFrame → Type 0
Denied base t o c (NoFrame.Unfit why) = Misfit base t o why
Denied base t o c NoFrame.NoClient = Fits base t o × (64 ≤ c)
Denied base t o c NoFrame.NoRoom = Known base t o c × (get_or t 0 0 ≡ 0) × (Agree t → (m : ℕ) → state t o m ≡ Free → ⊥)
Denied base t o c NoFrame.Corrupt = Known base t o c × (Accounted base t o → ⊥)

abbrev pub OfferSays : ℕ → List ℕ → List ℕ → ℕ → Result ℕ NoFrame → Type 0
OfferSays base t o c (Ok k) = Offered base t o c k
OfferSays base t o c (Err why) = Denied base t o c why

-- the size frames from s on are free, and s is a multiple of 2 ^ a
pub record FreeRun (t o : List ℕ) (size a s : ℕ) : Type 0 where
  pub fits : s + size ≤ cap t
  pub aligned : s % 2 ^ a ≡ 0
  pub free : (m : ℕ) → s ≤ m → m < s + size → state t o m ≡ Free

-- a run of size frames from s on is free and has its place; where the summaries agree it is the lowest such run
pub record RunOffered (base : ℕ) (t o : List ℕ) (c size a s : ℕ) : Type 0 where
  pub known : Known base t o c
  pub some : 0 < size
  pub run : FreeRun t o size a s
  pub placed : base + 4096 * (s + size) < 2 ^ 64
  pub lowest : Agree t → (x : ℕ) → FreeRun t o size a x → s ≤ x

-- the first reason why no run is given
abbrev pub RunDenied : ℕ → List ℕ → List ℕ → ℕ → ℕ → ℕ → NoRun → Type 0
RunDenied base t o c size a (NoRun.Unfit why) = Misfit base t o why
RunDenied base t o c size a NoRun.NoClient = Fits base t o × (64 ≤ c)
RunDenied base t o c size a NoRun.Empty = Known base t o c × (size ≡ 0)
RunDenied base t o c size a NoRun.NoRoom = Known base t o c × (0 < size) × (Agree t → (x : ℕ) → FreeRun t o size a x → ⊥)
RunDenied base t o c size a NoRun.Corrupt = Known base t o c × (0 < size) × (Accounted base t o → ⊥)

abbrev pub OfferRunSays : ℕ → List ℕ → List ℕ → ℕ → ℕ → ℕ → Result ℕ NoRun → Type 0
OfferRunSays base t o c size a (Ok s) = RunOffered base t o c size a s
OfferRunSays base t o c size a (Err why) = RunDenied base t o c size a why
