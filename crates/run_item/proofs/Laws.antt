-- What was read and replied is the item's. Assumes nothing.
use mathlib.Core.Path.{◌≡◌, subst}
use mathlib.Core.List.{List}
use Prim.Native.Nat.{ℕ, ◌+◌}
use Rattle.base.specs.Ranges.{Only}
use Rattle.config_bytes.specs.Fields.{le64}
use Rattle.hv_state.specs.Memory.{Mem}
use Rattle.hv_calls.specs.declared.Replied.{Replied}
use Rattle.hv_calls.specs.Calling.{answer_words, ReplySays}

-- the numbers that were read are those of the item
pub as_item : (s : List ℕ) (p number len : ℕ) (b b' : Mem) (answers : List ℕ) (at : ℕ) (said : Replied) → number ≡ le64 s p → len ≡ le64 s (p + 8) → ReplySays s (p + 16) len b number b' answers at said → ReplySays s (p + 16) (le64 s (p + 8)) b (le64 s p) b' answers at said
as_item s p number len b b' answers at said en el h = subst (λ (x : ℕ). ReplySays s (p + 16) (le64 s (p + 8)) b x b' answers at said) en (subst (λ (y : ℕ). ReplySays s (p + 16) y b number b' answers at said) el h)

pub as_told : (answers answers' : List ℕ) (at len n : ℕ) (said : Replied) → len ≡ n → Only answers at (at + answer_words len said) answers' → Only answers at (at + answer_words n said) answers'
as_told answers answers' at len n said e o = subst (λ (x : ℕ). Only answers at (at + answer_words x said) answers') e o
