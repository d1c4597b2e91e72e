-- What is replied to the call in the `len` bytes of s from `from` on: b are the memories before, b' after. Assumes nothing.
use Rattle.std.specs.Prelude.{◌≡◌, List, ℕ, ◌-◌, ◌*◌, ◌/◌}
use Rattle.set_model.specs.Sets.{table}
use Rattle.machine.specs.declared.Request.{Request}
use Rattle.machine.specs.Lists.{Call, Call.One, Call.All, Reply}
use Rattle.request_bytes.specs.Requests.{request_at}
use Rattle.call_bytes.specs.Calls.{is_list, member_at, Single, Several, Wrong}
use Rattle.hv_state.specs.Memory.{Mem}
use Rattle.hv_state.specs.Serving.{CallServed}
pub use Rattle.list_undo.specs.Undoing.{SpareFits}
use Rattle.hv_lists.specs.Listing.{ListDone}
use Rattle.hv_calls.specs.declared.Replied.{Replied}

-- how many members a list of so many bytes has
abbrev pub members_in : ℕ → ℕ
members_in len = (len - 1) / 33

-- the members of a list
abbrev pub member_of : List ℕ → ℕ → ℕ → Request
member_of s from i = request_at s (member_at from i)

-- the bytes mean the call c
pub data IsCall (s : List ℕ) (from len : ℕ) : Call → Type 0 where
  IsOne : Single s from len → IsCall s from len (One (request_at s from))
  IsList : Several s from len (members_in len) → IsCall s from len (All (table (member_of s from) (members_in len)))

-- how many words for answers a call of `len` bytes may change, by what is replied: two for each member of a list that was attempted
abbrev pub answer_words : ℕ → Replied → ℕ
answer_words len (Replied.Answered a) = 0
answer_words len Replied.Done = 2 * members_in len
answer_words len (Replied.Stopped i a) = 2 * members_in len
answer_words len (Replied.Malformed i) = 0

-- what is replied; where the memories are sound, the answers to the members of a list that is done stand in the buffer from `at` on
abbrev pub ReplySays : List ℕ → ℕ → ℕ → Mem → ℕ → Mem → List ℕ → ℕ → Replied → Type 0
ReplySays s from len b number b' buffer at (Replied.Answered a) = Single s from len × CallServed b number (One (request_at s from)) b' (Reply.Answered a)
ReplySays s from len b number b' buffer at Replied.Done = Several s from len (members_in len) × ListDone b number (member_of s from) (members_in len) b' buffer at
ReplySays s from len b number b' buffer at (Replied.Stopped i a) = Several s from len (members_in len) × CallServed b number (All (table (member_of s from) (members_in len))) b' (Reply.Stopped i a)
ReplySays s from len b number b' buffer at (Replied.Malformed i) = Wrong (is_list s from len) s from len i × (b' ≡ b)
