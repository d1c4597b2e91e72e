-- What the passes over all frames answer and change: t and o are the tree and the bytes before, t' and o' after. Assumes nothing.
use Rattle.std.specs.Prelude.{◌≡◌, List, Bool, true, false, ℕ, ◌≤◌, ◌<◌, ◌+◌, ◌*◌, ◌%◌, ◌^◌, eqb, length}
use Rattle.base.specs.Ranges.{how_many}
use Rattle.bitmap_tree.specs.Tree.{cap}
use Rattle.owners.specs.States.{State, State.Free, State.Reserved, State.Owned, state, Accounted}

-- 1 for yes
abbrev pub one : Bool → ℕ
one true = 1
one false = 0

-- 1 if a frame in the state s is the client c's, and else 0
abbrev pub owns : ℕ → State → ℕ
owns c Free = 0
owns c Reserved = 0
owns c (Owned d) = one (eqb d c)

-- how many frames the client c owns
abbrev pub owned_by : List ℕ → List ℕ → ℕ → ℕ
owned_by t o c = how_many (λ k. owns c (state t o k)) (cap t)

-- every frame of the client c became free, and no other frame changed
pub record Released (t o : List ℕ) (c : ℕ) (t' o' : List ℕ) : Type 0 where
  pub freed : (k : ℕ) → state t o k ≡ Owned c → state t' o' k ≡ Free
  pub others : (k : ℕ) → (state t o k ≡ Owned c → ⊥) → state t' o' k ≡ state t o k
  pub words : length t' ≡ length t
  pub bytes : length o' ≡ length o
  pub accounted : (base : ℕ) → Accounted base t o → Accounted base t' o'

-- the frames below n are free and all others reserved, whatever the memories held; where the first n frames have their place, they are an
-- allocator's
pub record Begun (t o : List ℕ) (n : ℕ) (t' o' : List ℕ) : Type 0 where
  pub free : (k : ℕ) → k < n → state t' o' k ≡ Free
  pub reserved : (k : ℕ) → n ≤ k → state t' o' k ≡ Reserved
  pub words : length t' ≡ length t
  pub bytes : length o' ≡ length o
  pub accounted : (base : ℕ) → base % 4096 ≡ 0 → base + 4096 * n < 2 ^ 64 → Accounted base t' o'
