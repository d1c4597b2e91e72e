-- What the summaries say of the frames where they agree. Assumes nothing.
use mathlib.Core.Path.{◌≡◌, sym, ap, ◌∙◌}
use mathlib.Core.List.{List}
use Prim.Native.Nat.{ℕ, zero, suc, ◌+◌, ◌-◌, ◌*◌, ◌/◌, ◌≤◌, ◌<◌}
use native.Mathlib.Decide.{ℕ_discrete, dec_lt}
use native.Mathlib.Omega.{arith}
use lib.ListN.{length, get_or}
use lib.Count.{count_trailing_zeros}
use Rattle.bits16.specs.Bits.{bit}
use Rattle.bits16.proofs.Laws.{lowest_trailing, lowest_set, lowest_some}
use Rattle.bits16.proofs.Lengths.{same_bits}
use Rattle.bitmap_tree.specs.Tree.{node_bit, Agree, Honest}
use Rattle.bitmap_tree.specs.Writes.{Summary}
use Rattle.bitmap_tree.proofs.Nodes.{child_bit, parent_none}

-- a word whose bit is set is not 0
pub set_some : (t : List ℕ) (n : ℕ) → Agree t → 0 < n → n < length t → node_bit t n ≡ 1 → get_or t n 0 ≡ 0 → ⊥
unfolding Agree
set_some t n a p l s e = let q = a n p l in omega arith

-- under a word whose bit is 0 no bit is set
pub none_under : (t : List ℕ) (m : ℕ) → Agree t → 0 < (m - 1) / 16 → (m - 1) / 16 < length t → node_bit t ((m - 1) / 16) ≡ 0 → node_bit t m ≡ 0
unfolding Agree
none_under t m a p l z = let e = a ((m - 1) / 16) p l in parent_none t m (omega arith)

-- where the root is 0 no bit is set
pub root_none : (t : List ℕ) → Agree t → get_or t 0 0 ≡ 0 → (j : ℕ) → 0 < j → j ≤ 16 * length t → node_bit t j ≡ 0
root_none t a e j p h = go j j (omega arith) p h
  where
    go : (f j : ℕ) → j ≤ f → 0 < j → j ≤ 16 * length t → node_bit t j ≡ 0
    go zero j l p h = absurd (omega arith)
    go (suc f) j l p h = at (ℕ_discrete ((j - 1) / 16) 0) (λ q. go f ((j - 1) / 16) (omega arith) q (omega arith))
      where
        at : Dec ((j - 1) / 16 ≡ 0) → (0 < (j - 1) / 16 → node_bit t ((j - 1) / 16) ≡ 0) → node_bit t j ≡ 0
        at (yes q) up = parent_none t j (ap (λ (x : ℕ). get_or t x 0) q ∙ e)
        at (no g) up = none_under t j a (omega arith) (omega arith) (up (omega arith))

-- the words of t are words
unfoldable pub Words16 : List ℕ → Type 0
Words16 t = (n : ℕ) → get_or t n 0 < 65536

-- under a word that is not 0 some frame is free
pub some_under : (t : List ℕ) → Agree t → Words16 t → (n : ℕ) → n < length t → (get_or t n 0 ≡ 0 → ⊥) → (j : ℕ) × (length t ≤ j) × (j ≤ 16 * length t) × (node_bit t j ≡ 1)
unfolding Words16
some_under t a f n l some = go (length t) n (omega arith) l some
  where
    go : (g n : ℕ) → length t ≤ g + n → n < length t → (get_or t n 0 ≡ 0 → ⊥) → (j : ℕ) × (length t ≤ j) × (j ≤ 16 * length t) × (node_bit t j ≡ 1)
    go zero n b l some = absurd (omega arith)
    go (suc g) n b l some =
        let i = count_trailing_zeros 16 (get_or t n 0) in
        let low = lowest_trailing (get_or t n 0) in
        let lt = lowest_some (get_or t n 0) i (f n) low some in
        at i lt (child_bit t n i lt ∙ lowest_set (get_or t n 0) low lt) (dec_lt (16 * n + 1 + i) (length t)) (λ m p q s. go g m p q s)
      where
        at : (i : ℕ) → i < 16 → node_bit t (16 * n + 1 + i) ≡ 1 → Dec (16 * n + 1 + i < length t)
            → ((m : ℕ) → length t ≤ g + m → m < length t → (get_or t m 0 ≡ 0 → ⊥) → (j : ℕ) × (length t ≤ j) × (j ≤ 16 * length t) × (node_bit t j ≡ 1))
            → (j : ℕ) × (length t ≤ j) × (j ≤ 16 * length t) × (node_bit t j ≡ 1)
        at i lt set (yes q) down = down (16 * n + 1 + i) (omega arith) q (set_some t (16 * n + 1 + i) a (omega arith) q set)
        at i lt set (no q) down = (16 * n + 1 + i, omega arith, omega arith, set)

-- ---- a word of summaries

-- a word that is what it is to be is honest
pub honest_word : (t : List ℕ) (p r : ℕ) → Summary t p r → r ≡ get_or t p 0 → Honest t p
honest_word t p r s e i l = child_bit t p i l ∙ ap (λ (x : ℕ). bit x i) (sym e) ∙ s.bits i l

-- an honest word is what it is to be
pub honest_is : (t : List ℕ) (p r : ℕ) → get_or t p 0 < 65536 → Summary t p r → Honest t p → r ≡ get_or t p 0
honest_is t p r f s h = same_bits 16 r (get_or t p 0) s.fits f (λ i l. s.bits i l ∙ sym (h i l) ∙ child_bit t p i l)
