-- Where an address stands, and whose the frames are. Assumes nothing.
use mathlib.Core.Path.{◌≡◌}
use mathlib.Core.List.{List}
use Prim.Native.Nat.{ℕ, ◌-◌, ◌%◌, ◌≤◌, ◌<◌}
use native.Mathlib.Omega.{arith}
use lib.ListN.{get_or}
use Rattle.base.specs.Search.{Stops}
use Rattle.bitmap_tree.specs.Tree.{free, cap}
use Rattle.owners.specs.States.{State.Free, State.Owned, state, Unowned}
use Rattle.owners.proofs.States.{state_told}
use Rattle.owners.proofs.Writes.{owner}
use Rattle.claims.specs.Returns.{Between, NotMine, Range, FirstOwned}

-- an address that is not a multiple of 4096 from the base
pub between : (base addr : ℕ) → base ≤ addr → ((addr - base) % 4096 ≡ 0 → ⊥) → Between base addr
between base addr l n = record { above = l; none = λ k e. n (omega arith) }

-- a frame that is taken, and whose byte is another
pub not_mine : (t o : List ℕ) (c k : ℕ) → k < cap t → (free t k ≡ 1 → ⊥) → (get_or o k 255 ≡ c → ⊥) → NotMine t o c k
not_mine t o c k l n d = record { within = l; taken = λ e. n (state_told t o k Free e); other = λ e. d (state_told t o k (Owned c) e).1 }

-- the first frame that is not the client's, and is taken
pub other_taken : (t o : List ℕ) (c a b k : ℕ) → b ≤ cap t → k < b → Stops (λ m. state t o m ≡ Owned c) a b k → (free t k ≡ 1 → ⊥) → NotMine t o c k
other_taken t o c a b k l h s n = record { within = omega arith; taken = λ e. n (state_told t o k Free e); other = s.fails h }

-- the first frame of a range that some client owns
pub first_owned : (base : ℕ) (t o : List ℕ) (a b r : ℕ) → Range base t o a b → Stops (Unowned t o) a b r → r < b → FirstOwned base t o a b r
first_owned base t o a b r x s h = record { range = x; stops = s; before = h; owned = owner t o r (s.fails h) }
