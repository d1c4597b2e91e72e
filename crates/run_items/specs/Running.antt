-- What a sequence of calls does: s are its bytes, `replies₀` and `answers₀` the words that were lent for what is replied, and `replies` and
-- `answers` these words at the end. Assumes nothing.
use Rattle.std.specs.Prelude.{◌≡◌, List, [], ◌∷◌, ℕ, ◌+◌, ◌*◌, ◌/◌, ◌≤◌, ◌<◌, get_or}
use Rattle.base.specs.Ranges.{Only}
use Rattle.call_bytes.specs.Framing.{Item, Framed}
use Rattle.hv_state.specs.Memory.{Mem}
use Rattle.hv_calls.specs.declared.Replied.{Replied}
use Rattle.hv_calls.specs.Calling.{answer_words, ReplySays}
use Rattle.reply_words.specs.Replies.{Wrote}

-- the words of the buffer from a up to b are as they were
abbrev pub KeptBetween : List ℕ → ℕ → ℕ → List ℕ → Type 0
KeptBetween buffer a b buffer' = (i : ℕ) → a ≤ i → i < b → get_or buffer' i 0 ≡ get_or buffer i 0

-- the items were served one after the other and made d of b; their replies stand from word r on, and the answers to their members from word `at`
-- on. Of an item's words for answers those that no member was told are as they were lent, and so is every word behind the last item's
pub data Performed (s replies₀ answers₀ replies answers : List ℕ) : ℕ → ℕ → List Item → Mem → Mem → Type 0 where
  Over : {r at : ℕ} {b : Mem} → Only replies₀ 0 r replies → Only answers₀ 0 at answers → Performed s replies₀ answers₀ replies answers r at [] b b
  Next : {r at : ℕ} {items : List Item} {b c d : Mem} (item : Item) (said : Replied) → ReplySays s item.from item.len b item.number c answers at said → Wrote replies r said
      → KeptBetween answers₀ (at + answer_words item.len said) (at + 2 * (item.len / 33)) answers
      → Performed s replies₀ answers₀ replies answers (r + 3) (at + 2 * (item.len / 33)) items c d → Performed s replies₀ answers₀ replies answers r at (item ∷ items) b d

-- the bytes are items, which were served one after the other and made d of b
pub record Transcript (s : List ℕ) (b d : Mem) (replies₀ answers₀ replies answers : List ℕ) : Type 0 where
  pub items : List Item
  pub framed : Framed s 0 items
  pub performed : Performed s replies₀ answers₀ replies answers 0 0 items b d
