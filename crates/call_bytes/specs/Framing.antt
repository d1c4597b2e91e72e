-- A sequence of calls: items one behind the other, up to the end of the bytes. An item is the asker's number (8 bytes), the length of the call
-- (8 bytes), both little-endian, and the bytes of the call. Assumes nothing.
use Rattle.std.specs.Prelude.{◌≡◌, List, [], ◌∷◌, ℕ, ◌+◌, ◌≤◌, ◌<◌, length, Result, Ok, Err}
use Rattle.config_bytes.specs.Fields.{le64}
use Rattle.call_bytes.specs.declared.Broken.{Broken}

-- who asks, and where the bytes of the call are
pub record Item : Type 0 where
  pub number : ℕ
  pub from : ℕ
  pub len : ℕ

-- the item at p
abbrev pub item_at : List ℕ → ℕ → Item
item_at s p = record { number = le64 s p; from = p + 16; len = le64 s (p + 8) }

-- where the item behind the one at p starts
abbrev pub behind : List ℕ → ℕ → ℕ
behind s p = p + (16 + le64 s (p + 8))

-- the bytes from p on are these items, and nothing is left over
pub data Framed (s : List ℕ) : ℕ → List Item → Type 0 where
  Ends : {p : ℕ} → p ≡ length s → Framed s p []
  Goes : {p : ℕ} {rest : List Item} → behind s p ≤ length s → Framed s (behind s p) rest → Framed s p (item_at s p ∷ rest)

-- of the items from p on, the first whose header or call is not whole is at q
pub data Breaks (s : List ℕ) : ℕ → ℕ → Type 0 where
  Here : {p : ℕ} → p < length s → (behind s p ≤ length s → ⊥) → Breaks s p p
  Later : {p q : ℕ} → behind s p ≤ length s → Breaks s (behind s p) q → Breaks s p q

-- the bytes are n items
pub record Items (s : List ℕ) (n : ℕ) : Type 0 where
  pub items : List Item
  pub framed : Framed s 0 items
  pub count : length items ≡ n

-- what the number of items says of the bytes, or the place of the first that is not whole
abbrev pub FramingSays : List ℕ → Result ℕ Broken → Type 0
FramingSays s (Ok n) = Items s n
FramingSays s (Err e) = Breaks s 0 e.0
