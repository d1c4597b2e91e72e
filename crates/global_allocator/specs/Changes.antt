-- What the functions that change the memories answer: t and o are the tree and the owners' bytes before, t' and o' after. Every refusal
-- has `Kept`. `Became` says which frames changed, and to what, and that no other did. Assumes nothing.
use Rattle.std.specs.Prelude.{◌≡◌, List, ℕ, ◌+◌, ◌*◌, ⊤, Result, Ok, Err}
use Rattle.owners.specs.States.{State.Free, State.Owned, Accounted}
use Rattle.owners.specs.Writes.{Became, Kept}
use Rattle.claims.specs.declared.NoFrame.{NoFrame}
use Rattle.claims.specs.declared.NoRun.{NoRun}
use Rattle.claims.specs.declared.NotFreed.{NotFreed}
use Rattle.claims.specs.declared.RunNotFreed.{RunNotFreed}
use Rattle.claims.specs.Offers.{Offered, Denied, RunOffered, RunDenied}
use Rattle.claims.specs.Returns.{Mine, Refused, RunMine, RunRefused}

-- the frame at the address was offered and is the client c's now
pub record Gave (base : ℕ) (t o : List ℕ) (c addr : ℕ) (t' o' : List ℕ) : Type 0 where
  pub frame : ℕ
  pub place : addr ≡ base + 4096 * frame
  pub offered : Offered base t o c frame
  pub change : Became t o frame (frame + 1) (Owned c) t' o'
  pub accounted : Accounted base t o → Accounted base t' o'

abbrev pub AllocSays : ℕ → List ℕ → List ℕ → ℕ → List ℕ → List ℕ → Result ℕ NoFrame → Type 0
AllocSays base t o c t' o' (Ok addr) = Gave base t o c addr t' o'
AllocSays base t o c t' o' (Err why) = Kept t o t' o' × Denied base t o c why

-- the run at the address was offered and is the client c's now
pub record GaveRun (base : ℕ) (t o : List ℕ) (c size a addr : ℕ) (t' o' : List ℕ) : Type 0 where
  pub first : ℕ
  pub place : addr ≡ base + 4096 * first
  pub offered : RunOffered base t o c size a first
  pub change : Became t o first (first + size) (Owned c) t' o'
  pub accounted : Accounted base t o → Accounted base t' o'

abbrev pub RunSays : ℕ → List ℕ → List ℕ → ℕ → ℕ → ℕ → List ℕ → List ℕ → Result ℕ NoRun → Type 0
RunSays base t o c size a t' o' (Ok addr) = GaveRun base t o c size a addr t' o'
RunSays base t o c size a t' o' (Err why) = Kept t o t' o' × RunDenied base t o c size a why

-- the frame at the address was the client c's and is free now
pub record TookBack (base : ℕ) (t o : List ℕ) (c addr : ℕ) (t' o' : List ℕ) : Type 0 where
  pub frame : ℕ
  pub mine : Mine base t o c addr frame
  pub change : Became t o frame (frame + 1) Free t' o'
  pub accounted : Accounted base t o → Accounted base t' o'

abbrev pub DeallocSays : ℕ → List ℕ → List ℕ → ℕ → ℕ → List ℕ → List ℕ → Result ⊤ NotFreed → Type 0
DeallocSays base t o c addr t' o' (Ok _) = TookBack base t o c addr t' o'
DeallocSays base t o c addr t' o' (Err why) = Kept t o t' o' × Refused base t o c addr why

-- the count frames from the address on were the client c's and are free now
pub record TookRunBack (base : ℕ) (t o : List ℕ) (c addr count : ℕ) (t' o' : List ℕ) : Type 0 where
  pub first : ℕ
  pub mine : RunMine base t o c addr count first
  pub change : Became t o first (first + count) Free t' o'
  pub accounted : Accounted base t o → Accounted base t' o'

abbrev pub DeallocRunSays : ℕ → List ℕ → List ℕ → ℕ → ℕ → ℕ → List ℕ → List ℕ → Result ⊤ RunNotFreed → Type 0
DeallocRunSays base t o c addr count t' o' (Ok _) = TookRunBack base t o c addr count t' o'
DeallocRunSays base t o c addr count t' o' (Err why) = Kept t o t' o' × RunRefused base t o c addr count why
