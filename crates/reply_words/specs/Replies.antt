-- The three words of a reply. Assumes nothing.
use Rattle.std.specs.Prelude.{◌≡◌, List, ℕ, ◌+◌, get_or}
use Rattle.codes.specs.Codes.{done, malformed}
use Rattle.machine_codes.specs.Codes.{answer_code, address_in}
use Rattle.hv_calls.specs.declared.Replied.{Replied}

-- its code
abbrev pub code_in : Replied → ℕ
code_in (Replied.Answered a) = answer_code a
code_in Replied.Done = done
code_in (Replied.Stopped i a) = answer_code a
code_in (Replied.Malformed i) = malformed

-- which request it is of, or `old` where it is of none
abbrev pub index_in : Replied → ℕ → ℕ
index_in (Replied.Answered a) old = old
index_in Replied.Done old = old
index_in (Replied.Stopped i a) old = i
index_in (Replied.Malformed i) old = i

-- the address in a reply to one request, or `old` where there is none
abbrev pub place_in : Replied → ℕ → ℕ
place_in (Replied.Answered a) old = address_in a old
place_in Replied.Done old = old
place_in (Replied.Stopped i a) old = old
place_in (Replied.Malformed i) old = old

-- the reply stands in the three words from r on
pub record Wrote (replies : List ℕ) (r : ℕ) (said : Replied) : Type 0 where
  pub code : get_or replies r 0 ≡ code_in said
  pub index : get_or replies (r + 1) 0 ≡ index_in said 0
  pub place : get_or replies (r + 2) 0 ≡ place_in said 0
