-- What the exported function for calls says: that the bytes were served with an answer of which the result is the code, and what stands
-- behind the pointers its numbers. Assumes nothing.
use Rattle.std.specs.Prelude.{◌≡◌, List, ℕ, Result, Ok, Err}
use Rattle.codes.specs.Codes.{few_words, bad_spare}
use Rattle.reply_words.specs.Replies.{code_in, index_in, place_in}
use Rattle.hv_state.specs.Memory.{Mem}
use Rattle.hv_calls.specs.declared.Replied.{Replied}
use Rattle.hv_serve.specs.declared.NotServed.{NotServed}
use Rattle.hv_serve.specs.Called.{CalledSays}

-- the code of what is replied to a call
abbrev pub called_code : Result Replied NotServed → ℕ
called_code (Ok said) = code_in said
called_code (Err NotServed.FewWords) = few_words
called_code (Err NotServed.Spare) = bad_spare

-- which request the reply is of, or `old` where it is of none
abbrev pub called_index : Result Replied NotServed → ℕ → ℕ
called_index (Ok said) old = index_in said old
called_index (Err NotServed.FewWords) old = old
called_index (Err NotServed.Spare) old = old

-- the address in the reply, or `old` where there is none
abbrev pub called_address : Result Replied NotServed → ℕ → ℕ
called_address (Ok said) old = place_in said old
called_address (Err NotServed.FewWords) old = old
called_address (Err NotServed.Spare) old = old

-- r is the code of what is replied to a call, and the two pointers hold its index and its address, or what they held where it has none
pub record CallCode (Says : Result Replied NotServed → Type 0) (index index' address address' r : ℕ) : Type 0 where
  pub answer : Result Replied NotServed
  pub says : Says answer
  pub is : r ≡ called_code answer
  pub wrote_index : index' ≡ called_index answer index
  pub wrote_address : address' ≡ called_address answer address

-- the call that the bytes s are was served: the memories were b and are b', and r is the code of what is replied
abbrev pub ServeCode : List ℕ → List ℕ → List ℕ → List ℕ → List ℕ → Mem → ℕ → Mem → List ℕ → ℕ → ℕ → ℕ → ℕ → ℕ → Type 0
ServeCode s buffer spareZones spareTree spareOwners b number b' buffer' index index' address address' r =
    CallCode (CalledSays s buffer spareZones spareTree spareOwners b number b' buffer') index index' address address' r
