-- What it is to serve the call at p of a sequence: s are its bytes, and `replies` and `answers` the words for what is replied. Assumes nothing.
use Rattle.std.specs.Prelude.{List, ℕ, ◌+◌}
use Rattle.base.specs.Ranges.{Only}
use Rattle.config_bytes.specs.Fields.{le64}
use Rattle.hv_state.specs.Memory.{Mem}
use Rattle.hv_calls.specs.declared.Replied.{Replied}
use Rattle.hv_calls.specs.Calling.{answer_words, ReplySays}
use Rattle.reply_words.specs.Replies.{Wrote}

-- the item at p was served: its reply stands in the three words from r on, and no word for answers changed but those of a list's members
pub record ItemServed (s : List ℕ) (p : ℕ) (b b' : Mem) (replies : List ℕ) (r : ℕ) (replies' answers : List ℕ) (at : ℕ) (answers' : List ℕ) : Type 0 where
  pub said : Replied
  pub says : ReplySays s (p + 16) (le64 s (p + 8)) b (le64 s p) b' answers' at said
  pub wrote : Wrote replies' r said
  pub replied : Only replies r (r + 3) replies'
  pub told : Only answers at (at + answer_words (le64 s (p + 8)) said) answers'
