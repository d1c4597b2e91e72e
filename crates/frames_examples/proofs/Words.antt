-- The frames' words of the examples: those of one frame, all 0 or with a word that is not; those of no frame, which are no words; and a
-- single word, which is no frame's. Assumes nothing.
use mathlib.Core.Path.{◌≡◌, refl, sym, ◌∙◌}
use mathlib.Core.List.{List, [], ◌∷◌}
use Prim.Native.Nat.{ℕ, zero, suc, ◌+◌, ◌*◌, ◌≤◌, ◌<◌}
use native.Mathlib.Decide.{ℕ_discrete}
use native.Mathlib.Omega.{arith}
use lib.Dec.{lit<, lit≤}
use lib.ListN.{length, get_or, replicate}
use Rattle.base.proofs.Ranges.{zero_word}
use Rattle.bitmap_examples.proofs.Trees.{nothing, taken, one}
use Rattle.owners.specs.States.{State.Free, state}
use Rattle.owners.proofs.States.{not_reserved}
use Rattle.contents.specs.Contents.{Backed, Zero, Same, Wiped, WipedOf, Clean}
use Rattle.contents.proofs.Cleaning.{client_not_free}
use Rattle.allocator_examples.proofs.Memories.{nobody, held, accounted_free, accounted_owned, first_owned, behind_free, behind_owned}

-- a frame that is all 0
abbrev pub zeros : List ℕ
zeros = replicate 512 0

-- a frame whose first word is not 0
abbrev pub dirty : List ℕ
dirty = 1 ∷ replicate 511 0

-- a word
abbrev pub word : List ℕ
word = 0 ∷ []

-- ---- how many they are

pub zeros_backed : (o : List ℕ) → 1 ≤ length o → Backed o zeros
zeros_backed o l = record { whole = refl; few = l }

pub dirty_backed : (o : List ℕ) → 1 ≤ length o → Backed o dirty
dirty_backed o l = record { whole = refl; few = l }

-- no words are those of no frame
pub none_backed : (o : List ℕ) → Backed o nothing
none_backed o = record { whole = refl; few = omega arith }

-- one word is not a frame's
pub unbacked : (o : List ℕ) → Backed o word → ⊥
unbacked o b = let e = b.whole in omega (arith, e)

-- ---- what they hold

pub zero_frame : (k : ℕ) → Zero zeros k
zero_frame k i l = zero_word 512 (512 * k + i)

-- the first frame is not all 0
pub dirty_first : Zero dirty 0 → ⊥
dirty_first z = let e = z 0 (lit< tt) in omega (arith, e)

-- all words but the first are 0
dirty_word : (n : ℕ) → 0 < n → get_or dirty n 0 ≡ 0
dirty_word zero l = absurd (omega arith)
dirty_word (suc n) l = zero_word 511 n

-- what is cleared is the first frame
cleared : (k : ℕ) → (k ≡ 0 → ⊥) → Same dirty zeros k
cleared k n i l = zero_frame k i l ∙ sym (dirty_word (512 * k + i) (omega (arith, n)))

pub wiped : Wiped dirty 0 1 zeros
wiped = record { long = refl; inside = λ k l h. zero_frame k; outside = λ k o. cleared k (λ e. o (omega arith) (omega arith)) }

pub wiped_of : WipedOf taken held dirty 0 zeros
wiped_of = record { long = refl; mine = λ k l e. zero_frame k; others = λ k n. cleared k (λ e. n (rw e first_owned)) }

-- ---- memories that are clean

-- the first frame is free and all 0
pub clean_free : Clean 65536 one nobody zeros
clean_free =
    record {
      accounted = accounted_free;
      backed = zeros_backed nobody (lit≤ tt);
      beyond = λ k l. let h : 1 ≤ k = l in behind_free k (omega arith);
      zero = λ k e. zero_frame k;
    }

-- the first frame is client 0's, who wrote to it
pub clean_owned : Clean 65536 taken held dirty
clean_owned =
    record {
      accounted = accounted_owned;
      backed = dirty_backed held (lit≤ tt);
      beyond = λ k l. let h : 1 ≤ k = l in behind_owned k (omega arith);
      zero = λ k e. absurd (none_free k e (ℕ_discrete k 0));
    }
  where
    none_free : (k : ℕ) → state taken held k ≡ Free → Dec (k ≡ 0) → ⊥
    none_free k e (yes q) = client_not_free 0 (sym first_owned ∙ (rw q at e))
    none_free k e (no n) = not_reserved (sym e ∙ behind_owned k (omega (arith, n)))
