-- How the states of frames change: t and o are the tree and the bytes before, t' and o' after. Assumes nothing.
use Rattle.std.specs.Prelude.{◌≡◌, List, ℕ, ◌≤◌, ◌<◌, length, get_or}
use Rattle.base.specs.Ranges.{Outside}
use Rattle.bitmap_tree.specs.Writes.{Changed}
use Rattle.owners.specs.States.{State, state}

-- the bytes from a up to b are c, and no other changed
pub record Filled (o : List ℕ) (a b c : ℕ) (o' : List ℕ) : Type 0 where
  pub long : length o' ≡ length o
  pub inside : (k : ℕ) → a ≤ k → k < b → get_or o' k 255 ≡ c
  pub outside : (k : ℕ) → Outside a b k → get_or o' k 255 ≡ get_or o k 255

-- the frames from a up to b have the bit v and the byte c, and no other changed
pub record Assigned (t o : List ℕ) (a b v c : ℕ) (t' o' : List ℕ) : Type 0 where
  pub bits : Changed t a b v t'
  pub bytes : Filled o a b c o'

-- the frames from a up to b became s, and no other frame changed
pub record Became (t o : List ℕ) (a b : ℕ) (s : State) (t' o' : List ℕ) : Type 0 where
  pub inside : (k : ℕ) → a ≤ k → k < b → state t' o' k ≡ s
  pub others : (k : ℕ) → Outside a b k → state t' o' k ≡ state t o k
  pub words : length t' ≡ length t
  pub bytes : length o' ≡ length o

-- every word and byte is as it was
pub record Kept (t o t' o' : List ℕ) : Type 0 where
  pub words : t' ≡ t
  pub bytes : o' ≡ o
