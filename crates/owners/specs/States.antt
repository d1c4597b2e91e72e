-- What a frame is: free, a client's, or reserved for the monitor. It is told from the tree t and the owners' bytes o, whatever they
-- hold, and so every frame is exactly one of the three. Frame k stands at base + 4096 k. Assumes nothing.
use Rattle.std.specs.Prelude.{◌≡◌, List, Bool, true, false, ℕ, ◌+◌, ◌*◌, ◌%◌, ◌^◌, ◌<◌, eqb, ltb, length, get_or}
use Rattle.bitmap_tree.specs.Tree.{free, cap, Full, Agree}

-- what a frame can be
pub data State : Type 0 where
  Free : State
  Reserved : State
  Owned : ℕ → State

-- by whether its bit is set and whether its byte names a client
abbrev pub by_tests : Bool → Bool → ℕ → State
by_tests true named c = Free
by_tests false true c = Owned c
by_tests false false c = Reserved

-- a frame with the bit b and the byte c: free where the bit is 1, else owned by the client c, of which there are 64, else reserved
abbrev pub state_of : ℕ → ℕ → State
state_of b c = by_tests (eqb b 1) (ltb c 64) c

-- frame k; behind the last frame, it is reserved
unfoldable pub state : List ℕ → List ℕ → ℕ → State
state t o k = state_of (free t k) (get_or o k 255)

-- a client owns frame k
pub record HasOwner (t o : List ℕ) (k : ℕ) : Type 0 where
  pub client : ℕ
  pub is : state t o k ≡ Owned client

-- no client owns frame k
abbrev pub Unowned : List ℕ → List ℕ → ℕ → Type 0
Unowned t o k = HasOwner t o k → ⊥

-- a full tree, and as many bytes as frames
pub record Matched (t o : List ℕ) : Type 0 where
  pub full : Full (length t)
  pub bytes : length o ≡ cap t

-- frame k ends at 2^64 - 1 or before
abbrev pub Placed : ℕ → ℕ → Type 0
Placed base k = base + 4096 * (k + 1) < 2 ^ 64

-- bit and byte of frame k are in order: the byte is a client or nobody, nobody's if the frame is free, and the frame has its place if it is
-- not reserved
pub record Right (base k b c : ℕ) : Type 0 where
  pub known : (c ≡ 255 → ⊥) → c < 64
  pub nobody : b ≡ 1 → c ≡ 255
  pub reach : (state_of b c ≡ Reserved → ⊥) → Placed base k

-- each frame of the two memories is in order
abbrev pub RightAt : ℕ → List ℕ → List ℕ → ℕ → Type 0
RightAt base t o k = Right base k (free t k) (get_or o k 255)

-- the two memories are an allocator's whose frames begin at base
pub record Accounted (base : ℕ) (t o : List ℕ) : Type 0 where
  pub matched : Matched t o
  pub aligned : base % 4096 ≡ 0
  pub agree : Agree t
  pub right : (k : ℕ) → k < cap t → RightAt base t o k
