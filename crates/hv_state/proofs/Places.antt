-- The machines' words stay apart: a write to one of them changes what it says and nothing else. Assumes nothing.
use mathlib.Core.Path.{◌≡◌, ◌∙◌, ap}
use mathlib.Core.List.{List}
use mathlib.Core.Logic.{◌⊎◌, inl, inr}
use Prim.Native.Nat.{ℕ, ◌+◌, ◌*◌, ◌≤◌, ◌<◌, min}
use lib.ListN.{get_or}
use native.Mathlib.Decide.{dec_lt}
use native.Mathlib.Omega.{arith}
use Rattle.base.specs.Ranges.{Outside, Only}
use Rattle.base.specs.Choices.{at}
use Rattle.region_words.specs.Words.{kind_of, region_of}
use Rattle.region_words.proofs.Laws.{region_once}
use Rattle.set_model.specs.Sets.{table}
use Rattle.set_model.proofs.Lists.{table_same}
use Rattle.set_slots.specs.Slots.{slot, regions_in, SetOk}
use Rattle.machine.specs.declared.Which.{Which}
use Rattle.machine.specs.declared.Which.TheVariants.{Processors, Devices}
use Rattle.zones.specs.Layout.{stride, place_of, set_at}
use Rattle.zones.proofs.Laws.{place_before}

-- ---- a set that is not written to

-- the words from at up to the last of so many slots are outside the words from a up to b
abbrev Clear : ℕ → ℕ → ℕ → ℕ → Type 0
Clear a b at slots = (k : ℕ) → at ≤ k → k < at + 1 + 4 * slots → Outside a b k

module _ (z z' : List ℕ) (a b at slots : ℕ) (o : Only z a b z') (c : Clear a b at slots) where
  word_kept : (k : ℕ) → at ≤ k → k < at + 1 + 4 * slots → get_or z' k 0 ≡ get_or z k 0
  word_kept k l h = o.others k (c k l h)

  count_kept : get_or z' at 0 ≡ get_or z at 0
  count_kept = word_kept at (omega arith) (omega arith)

  slot_kept : (i : ℕ) → i < slots → slot z' at i ≡ slot z at i
  unfolding region_of
  slot_kept i l = region_once (slot z' at i) (slot z at i) (word_kept (at + 1 + 4 * i) (omega arith) (omega arith)) (word_kept (at + 1 + 4 * i + 1) (omega arith) (omega arith)) (word_kept (at + 1 + 4 * i + 2) (omega arith) (omega arith)) (ap kind_of (word_kept (at + 1 + 4 * i + 3) (omega arith) (omega arith)))

  pub regions_kept : regions_in z' at slots ≡ regions_in z at slots
  unfolding regions_in
  regions_kept = ap (λ (x : ℕ). table (slot z' at) (min slots x)) count_kept ∙ table_same (slot z' at) (slot z at) (min slots (get_or z at 0)) (λ i l. slot_kept i (omega arith))

  pub set_kept : SetOk z at slots → SetOk z' at slots
  set_kept s =
      record {
        few = rw count_kept s.few;
        kinds = λ i l. rw (word_kept (at + 1 + 4 * i + 3) (omega arith) (let f = s.few in let e = count_kept in omega arith)) (s.kinds i (rw count_kept at l));
        clear = λ i l h. let e = s.clear i (rw count_kept at l) h in record { guest = word_kept (at + 1 + 4 * i) (omega arith) (omega arith) ∙ e.guest; host = word_kept (at + 1 + 4 * i + 1) (omega arith) (omega arith) ∙ e.host; pages = word_kept (at + 1 + 4 * i + 2) (omega arith) (omega arith) ∙ e.pages; kind = word_kept (at + 1 + 4 * i + 3) (omega arith) (omega arith) ∙ e.kind };
        ordered = rw regions_kept s.ordered;
      }

-- ---- places

-- two machines' words have none in common
pub machines_apart : (slots m m' : ℕ) → (m ≡ m' → ⊥) → (place_of slots m + stride slots ≤ place_of slots m') ⊎ (place_of slots m' + stride slots ≤ place_of slots m)
machines_apart slots m m' d = go (dec_lt m m')
  where
    go : Dec (m < m') → (place_of slots m + stride slots ≤ place_of slots m') ⊎ (place_of slots m' + stride slots ≤ place_of slots m)
    go (yes l) = inl (place_before slots m m' l)
    go (no l) = inr (place_before slots m' m (omega (arith, l, d)))

-- a set lies behind the first of its machine's words, and within them
pub set_low : (place slots : ℕ) (w : Which) → place < set_at place slots w
set_low place slots Processors = omega arith
set_low place slots Devices = omega arith

pub set_high : (place slots : ℕ) (w : Which) → set_at place slots w + 1 + 4 * slots ≤ place + stride slots
set_high place slots Processors = omega arith
set_high place slots Devices = omega arith

-- a set of one machine is clear of all words of another
pub other_clear : (slots m m' : ℕ) (w : Which) (a b : ℕ) → (m ≡ m' → ⊥) → place_of slots m ≤ a → b ≤ place_of slots m + stride slots → Clear a b (set_at (place_of slots m') slots w) slots
other_clear slots m m' w a b d la lb k low high p q = go (machines_apart slots m m' d)
  where
    go : (place_of slots m + stride slots ≤ place_of slots m') ⊎ (place_of slots m' + stride slots ≤ place_of slots m) → ⊥
    go (inl l) = let x = set_low (place_of slots m') slots w in omega arith
    go (inr l) = let x = set_high (place_of slots m') slots w in omega arith

-- the first word of one machine is outside the words of another
pub flag_clear : (slots m m' : ℕ) (a b : ℕ) → (m ≡ m' → ⊥) → place_of slots m ≤ a → b ≤ place_of slots m + stride slots → Outside a b (place_of slots m')
flag_clear slots m m' a b d la lb p q = go (machines_apart slots m m' d)
  where
    go : (place_of slots m + stride slots ≤ place_of slots m') ⊎ (place_of slots m' + stride slots ≤ place_of slots m) → ⊥
    go (inl l) = omega arith
    go (inr l) = omega arith
