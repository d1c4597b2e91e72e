-- A call lies in `len` bytes from `from` on. It is one request, of 33 bytes, or a list: the byte 255, and behind it its members, requests of
-- 33 bytes each, one behind the other. Assumes nothing.
use Rattle.std.specs.Prelude.{◌≡◌, Bool, true, false, List, ℕ, ◌+◌, ◌*◌, ◌≤◌, ◌<◌, get_or, ltb, eqb, Result, Ok, Err}
use Rattle.base.specs.Choices.{both}
use Rattle.request_bytes.specs.Requests.{Means, request_at}
use Rattle.call_bytes.specs.declared.Shape.{Shape}
use Rattle.call_bytes.specs.declared.Malformed.{Malformed}

-- the call is a list
unfoldable pub is_list : List ℕ → ℕ → ℕ → Bool
is_list s from len = both (ltb 0 len) (eqb (get_or s from 0) 255)

-- where member i of a list starts
abbrev pub member_at : ℕ → ℕ → ℕ
member_at from i = from + (1 + 33 * i)

-- the bytes from p on mean a request
abbrev pub WellFormed : List ℕ → ℕ → Type 0
WellFormed s p = Means s p (request_at s p)

-- member i lies within the call, and means a request
pub record Member (s : List ℕ) (from len i : ℕ) : Type 0 where
  pub within : 1 + 33 * (i + 1) ≤ len
  pub right : WellFormed s (member_at from i)

-- the call is one request
pub record Single (s : List ℕ) (from len : ℕ) : Type 0 where
  pub alone : is_list s from len ≡ false
  pub exact : len ≡ 33
  pub right : WellFormed s from

-- the call is a list of n requests
pub record Several (s : List ℕ) (from len n : ℕ) : Type 0 where
  pub list : is_list s from len ≡ true
  pub exact : len ≡ 1 + 33 * n
  pub right : (i : ℕ) → i < n → WellFormed s (member_at from i)

-- i is the lowest member that is malformed. A rest that is no whole member counts as one
pub record Lowest (s : List ℕ) (from len i : ℕ) : Type 0 where
  pub starts : 1 + 33 * i < len
  pub before : (j : ℕ) → j < i → Member s from len j
  pub wrong : Member s from len i → ⊥

-- what is malformed: of a call that is no list, its one request, which has number 0; of a list, its lowest malformed member
abbrev pub Wrong : Bool → List ℕ → ℕ → ℕ → ℕ → Type 0
Wrong false s from len i = (i ≡ 0) × (len ≡ 33 → WellFormed s from → ⊥)
Wrong true s from len i = Lowest s from len i

-- what a shape says of a call, or the number of what is malformed
abbrev pub ShapeSays : List ℕ → ℕ → ℕ → Result Shape Malformed → Type 0
ShapeSays s from len (Ok Shape.One) = Single s from len
ShapeSays s from len (Ok (Shape.List n)) = Several s from len n
ShapeSays s from len (Err e) = Wrong (is_list s from len) s from len e.0
