-- What the functions that change the memories answer: t and o are the tree and the owners' bytes before, t' and o' after. Every refusal
-- has `Kept`. `Became` says which frames changed, and to what, and that no other did. Assumes nothing.
use Rattle.std.specs.Prelude.{List, ℕ, ◌+◌, ◌*◌, ◌^◌, ◌≤◌, ◌<◌, ⊤, Result, Ok, Err}
use Rattle.bitmap_tree.specs.Tree.{cap}
use Rattle.owners.specs.States.{State.Free, State.Reserved, Accounted}
use Rattle.owners.specs.Writes.{Became, Kept}
use Rattle.owner_passes.specs.Passes as passes
use Rattle.claims.specs.declared.NotChanged.{NotChanged}
use Rattle.claims.specs.Fits.{Fits, Misfit}
use Rattle.claims.specs.Offers.{Known}
use Rattle.claims.specs.Returns.{Changeable, Unchangeable}
use Rattle.allocator_pool.specs.declared.BadClient.{BadClient}
use Rattle.allocator_pool.specs.declared.NotStarted.{NotStarted}
use Rattle.allocator_pool.specs.declared.NotInserted.{NotInserted}

-- the frames below n are free and all others reserved, and the memories are an allocator's
pub record Init (base : ℕ) (t o : List ℕ) (n : ℕ) (t' o' : List ℕ) : Type 0 where
  pub fits : Fits base t o
  pub begun : passes.Begun t o n t' o'
  pub accounted : Accounted base t' o'

abbrev pub InitSays : ℕ → List ℕ → List ℕ → ℕ → List ℕ → List ℕ → Result ⊤ NotStarted → Type 0
InitSays base t o n t' o' (Ok _) = Init base t o n t' o'
InitSays base t o n t' o' (Err NotStarted.TooMany) = Kept t o t' o' × Fits base t o × (cap t < n)
InitSays base t o n t' o' (Err NotStarted.TooHigh) = Kept t o t' o' × Fits base t o × (n ≤ cap t) × (2 ^ 64 ≤ base + 4096 * n)
InitSays base t o n t' o' (Err (NotStarted.Unfit why)) = Kept t o t' o' × Misfit base t o why

-- no client owned one of the frames from a up to b, and they are free now
pub record Opened (base : ℕ) (t o : List ℕ) (a b : ℕ) (t' o' : List ℕ) : Type 0 where
  pub may : Changeable base t o a b
  pub placed : base + 4096 * b < 2 ^ 64
  pub change : Became t o a b Free t' o'
  pub accounted : Accounted base t o → Accounted base t' o'

abbrev pub InsertSays : ℕ → List ℕ → List ℕ → ℕ → ℕ → List ℕ → List ℕ → Result ⊤ NotInserted → Type 0
InsertSays base t o a b t' o' (Ok _) = Opened base t o a b t' o'
InsertSays base t o a b t' o' (Err NotInserted.TooHigh) = Kept t o t' o' × Changeable base t o a b × (2 ^ 64 ≤ base + 4096 * b)
InsertSays base t o a b t' o' (Err (NotInserted.No why)) = Kept t o t' o' × Unchangeable base t o a b why

-- no client owned one of the frames from a up to b, and they are reserved now
pub record Closed (base : ℕ) (t o : List ℕ) (a b : ℕ) (t' o' : List ℕ) : Type 0 where
  pub may : Changeable base t o a b
  pub change : Became t o a b Reserved t' o'
  pub accounted : Accounted base t o → Accounted base t' o'

abbrev pub RemoveSays : ℕ → List ℕ → List ℕ → ℕ → ℕ → List ℕ → List ℕ → Result ⊤ NotChanged → Type 0
RemoveSays base t o a b t' o' (Ok _) = Closed base t o a b t' o'
RemoveSays base t o a b t' o' (Err why) = Kept t o t' o' × Unchangeable base t o a b why

abbrev pub ReleaseSays : ℕ → List ℕ → List ℕ → ℕ → List ℕ → List ℕ → Result ⊤ BadClient → Type 0
ReleaseSays base t o c t' o' (Ok _) = Known base t o c × passes.Released t o c t' o'
ReleaseSays base t o c t' o' (Err BadClient.NoClient) = Kept t o t' o' × Fits base t o × (64 ≤ c)
ReleaseSays base t o c t' o' (Err (BadClient.Unfit why)) = Kept t o t' o' × Misfit base t o why
