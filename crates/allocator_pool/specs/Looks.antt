-- What the functions that only look answer, for a tree t, owners' bytes o and a base. What a frame is, and `Accounted`, are defined in
-- owners/specs/States; why memories do not fit, in claims/specs/Fits. Assumes nothing.
use Rattle.std.specs.Prelude.{◌≡◌, List, ℕ, ◌≤◌, ◌<◌, ⊤, Result, Ok, Err}
use Rattle.base.specs.Search.{Stops}
use Rattle.bitmap_tree.specs.Tree.{cap, Agree}
use Rattle.bitmap_looks.specs.Looks.{LowestLie}
use Rattle.owners.specs.States.{State, State.Free, State.Reserved, State.Owned, state, RightAt, Accounted}
use Rattle.owner_passes.specs.Passes.{owned_by}
use Rattle.claims.specs.Fits.{Fits, Misfit}
use Rattle.claims.specs.Offers.{Known}
use Rattle.allocator_pool.specs.declared.FrameState.{FrameState}
use Rattle.allocator_pool.specs.declared.NoState.{NoState}
use Rattle.allocator_pool.specs.declared.BadClient.{BadClient}
use Rattle.allocator_pool.specs.declared.Unaccounted.{Unaccounted}

-- frame k is there and is s
pub record Holds (base : ℕ) (t o : List ℕ) (k : ℕ) (s : State) : Type 0 where
  pub fits : Fits base t o
  pub within : k < cap t
  pub is : state t o k ≡ s

abbrev pub OwnerSays : ℕ → List ℕ → List ℕ → ℕ → Result FrameState NoState → Type 0
OwnerSays base t o k (Ok FrameState.Free) = Holds base t o k Free
OwnerSays base t o k (Ok FrameState.Reserved) = Holds base t o k Reserved
OwnerSays base t o k (Ok (FrameState.Client c)) = Holds base t o k (Owned c)
OwnerSays base t o k (Err NoState.Outside) = Fits base t o × (cap t ≤ k)
OwnerSays base t o k (Err (NoState.Unfit why)) = Misfit base t o why

abbrev pub CountSays : ℕ → List ℕ → List ℕ → ℕ → Result ℕ BadClient → Type 0
CountSays base t o c (Ok n) = Known base t o c × (n ≡ owned_by t o c)
CountSays base t o c (Err BadClient.NoClient) = Fits base t o × (64 ≤ c)
CountSays base t o c (Err (BadClient.Unfit why)) = Misfit base t o why

-- the summaries agree, and k is the first frame that is not in order
pub record FirstWrong (base : ℕ) (t o : List ℕ) (k : ℕ) : Type 0 where
  pub fits : Fits base t o
  pub agree : Agree t
  pub within : k < cap t
  pub stops : Stops (RightAt base t o) 0 (cap t) k

abbrev pub CheckSays : ℕ → List ℕ → List ℕ → Result ⊤ Unaccounted → Type 0
CheckSays base t o (Ok _) = Accounted base t o
CheckSays base t o (Err (Unaccounted.Lie p)) = Fits base t o × LowestLie t p
CheckSays base t o (Err (Unaccounted.Wrong k)) = FirstWrong base t o k
CheckSays base t o (Err (Unaccounted.Unfit why)) = Misfit base t o why
