-- What follows from what is said of a set. Assumes nothing.
use mathlib.Core.Path.{◌≡◌}
use mathlib.Core.List.{List}
use Prim.Native.Nat.{ℕ, ◌<◌}
use lib.ListN.{get_or}
use native.Mathlib.Decide.{dec_lt}
use native.Mathlib.Omega.{arith}
use Rattle.set_slots.specs.Slots.{Lies, Readable, UsedOk, SetOk}
use Rattle.set_slots.proofs.Order.{used_in_set}
use Rattle.set_claims.specs.Claims.{Broken, BadSays}
use Rattle.set_claims.specs.declared.Bad.{Bad}

-- a set in order that lies within the words is never called bad
pub never_bad : {z : List ℕ} {at slots : ℕ} → Lies z at slots → SetOk z at slots → (why : Bad) → BadSays z at slots why → ⊥
never_bad l ok Bad.NoSet b = b l
never_bad l ok Bad.Corrupt b = b.broken ok

-- a set that counts more regions than it has slots is broken
pub too_many_lem : {z : List ℕ} {at slots : ℕ} → Lies z at slots → slots < get_or z at 0 → Broken z at slots
too_many_lem lies l = record { lies = lies; wrong = λ few. absurd (omega arith); broken = λ ok. let few = ok.few in omega arith }

-- and so is one with a slot that is not right
pub slot_wrong : {z : List ℕ} {at slots n : ℕ} (i : ℕ) → Readable z at slots → n ≡ get_or z at 0 → i < n → (UsedOk z at i → ⊥) → Broken z at slots
slot_wrong i d e l w = record { lies = d.lies; wrong = λ few. (i, omega arith, w); broken = λ ok. w (used_in_set d e ok i l) }

-- or one of which it is not so that it is right if it is counted
pub counted_wrong : {z : List ℕ} {at slots n : ℕ} (i : ℕ) → Readable z at slots → n ≡ get_or z at 0 → ((i < n → UsedOk z at i) → ⊥) → Broken z at slots
counted_wrong {z} {at} {slots} {n} i d e w = go (dec_lt i n)
  where
    go : Dec (i < n) → Broken z at slots
    go (yes l) = slot_wrong i d e l (λ u. w (λ h. u))
    go (no l) = absurd (w (λ h. absurd (l h)))
