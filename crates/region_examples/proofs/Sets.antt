-- The sets of the examples, each of one slot in five words: of no region, of one page, with a count above the slots, and with a kind that
-- there is not; and no words, in which no set lies. Assumes nothing.
use mathlib.Core.Path.{◌≡◌, refl}
use mathlib.Core.List.{List, [], ◌∷◌}
use Prim.Native.Nat.{ℕ, zero, suc, ◌<◌}
use native.Mathlib.Omega.{arith}
use lib.Dec.{lit<, lit≤}
use lib.ListN.{get_or}
use Rattle.base.specs.Ranges.{Outside, Only}
use Rattle.region_words.specs.Words as words
use Rattle.set_slots.specs.Slots as slots
use Rattle.set_slots.specs.Slots.{regions_in, Lies, Readable, Empty, SetOk}
use Rattle.set_claims.specs.Claims.{Broken}
use Rattle.region_examples.proofs.Regions.{page_valid}

-- no words
abbrev pub nowhere : List ℕ
nowhere = []

-- no region
abbrev pub vacant : List ℕ
vacant = 0 ∷ 0 ∷ 0 ∷ 0 ∷ 0 ∷ []

-- the page
abbrev pub held : List ℕ
held = 1 ∷ 0 ∷ 4096 ∷ 1 ∷ 0 ∷ []

-- two regions in one slot
abbrev pub broken : List ℕ
broken = 2 ∷ 0 ∷ 4096 ∷ 1 ∷ 0 ∷ []

-- a region of kind 3
abbrev pub odd : List ℕ
odd = 1 ∷ 0 ∷ 4096 ∷ 1 ∷ 3 ∷ []

-- ---- where they lie

pub lies_nowhere : Lies nowhere 0 1 → ⊥
lies_nowhere l = omega (arith, l)

pub vacant_readable : Readable vacant 0 1
vacant_readable = record { lies = lit≤ tt; few = lit≤ tt }

pub held_readable : Readable held 0 1
held_readable = record { lies = lit≤ tt; few = lit≤ tt }

pub odd_readable : Readable odd 0 1
odd_readable = record { lies = lit≤ tt; few = lit≤ tt }

-- ---- which are in order

pub vacant_clear : (i : ℕ) → i < 1 → Empty vacant 0 i
unfolding words.number_of
vacant_clear i l = let q : i ≡ 0 = omega arith in rw q (record { guest = refl; host = refl; pages = refl; kind = refl })

pub vacant_ok : SetOk vacant 0 1
unfolding slots.regions_in
vacant_ok = record { few = lit≤ tt; kinds = λ i l. absurd (omega arith); clear = λ i l h. vacant_clear i h; ordered = tt }

pub held_ok : SetOk held 0 1
unfolding slots.regions_in words.region_of words.kind_of
held_ok =
    record {
      few = lit≤ tt;
      kinds = λ i l. let q : i ≡ 0 = omega arith in rw q (lit≤ tt);
      clear = λ i l h. absurd (omega arith);
      ordered = (page_valid, tt, tt);
    }

pub is_broken : Broken broken 0 1
is_broken = record { lies = lit≤ tt; wrong = λ l. absurd (omega (arith, l)); broken = λ o. let l = o.few in omega arith }

-- ---- how they differ

-- there is no word behind the fifth
behind : (a b c d e k : ℕ) → Outside 0 5 k → get_or (a ∷ b ∷ c ∷ d ∷ e ∷ []) k 0 ≡ 0
behind a b c d e zero o = absurd (o (lit≤ tt) (lit< tt))
behind a b c d e (suc zero) o = absurd (o (lit≤ tt) (lit< tt))
behind a b c d e (suc (suc zero)) o = absurd (o (lit≤ tt) (lit< tt))
behind a b c d e (suc (suc (suc zero))) o = absurd (o (lit≤ tt) (lit< tt))
behind a b c d e (suc (suc (suc (suc zero)))) o = absurd (o (lit≤ tt) (lit< tt))
behind a b c d e (suc (suc (suc (suc (suc k))))) o = refl

pub filled : Only vacant 0 5 held
filled = record { long = refl; others = λ k o. rw (behind 1 0 4096 1 0 k o, behind 0 0 0 0 0 k o) refl }

pub emptied : Only held 0 5 vacant
emptied = record { long = refl; others = λ k o. rw (behind 1 0 4096 1 0 k o, behind 0 0 0 0 0 k o) refl }
