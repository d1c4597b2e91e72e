-- What keeps the memories clean. Assumes nothing.
use mathlib.Core.Path.{◌≡◌, refl, sym, ◌∙◌}
use mathlib.Core.List.{List}
use Prim.Native.Nat.{ℕ, ◌≤◌, ◌<◌}
use native.Mathlib.Decide.{dec_le, dec_lt}
use native.Mathlib.Omega.{arith}
use lib.ListN.{length}
use Rattle.base.specs.Ranges.{Outside}
use Rattle.owners.specs.States.{State, State.Free, State.Reserved, State.Owned, state, Accounted}
use Rattle.owners.specs.Writes.{Became}
use Rattle.owners.proofs.States.{not_reserved}
use Rattle.contents.specs.Contents.{frames_in, Backed, Zero, Same, Clean, KeptAll}

-- nothing is changed
pub kept_all : (t o w : List ℕ) → KeptAll t o w t o w
kept_all t o w = record { tree = refl; bytes = refl; words = refl }

-- contents of the same length are as many as before
pub backed_still : (o w o' w' : List ℕ) → length o' ≡ length o → length w' ≡ length w → Backed o w → Backed o' w'
backed_still o w o' w' e f b = let x = b.whole in let y = b.few in record { whole = rw f x; few = rw (e, f) y }

-- a frame whose words are as they were is all 0 if it was
pub same_zero : (w w' : List ℕ) (k : ℕ) → Same w w' k → Zero w k → Zero w' k
same_zero w w' k s z i l = s i l ∙ z i l

-- where the frames from a up to b became s, and no word of another frame changed
pub clean_after : (base : ℕ) (t o w : List ℕ) (a b : ℕ) (s : State) (t' o' w' : List ℕ) → Clean base t o w → Accounted base t' o' → Became t o a b s t' o'
    → length w' ≡ length w → ((k : ℕ) → a ≤ k → k < b → frames_in w ≤ k → s ≡ Reserved) → ((k : ℕ) → a ≤ k → k < b → s ≡ Free → Zero w' k)
    → ((k : ℕ) → Outside a b k → Same w w' k) → Clean base t' o' w'
clean_after base t o w a b s t' o' w' c acc x long past wiped same = record {
  accounted = acc;
  backed = backed_still o w o' w' x.bytes long c.backed;
  beyond = λ k l. beyond k (rw long at l) (dec_le a k) (dec_lt k b);
  zero = λ k e. zero k e (dec_le a k) (dec_lt k b);
}
  where
    beyond : (k : ℕ) → frames_in w ≤ k → Dec (a ≤ k) → Dec (k < b) → state t' o' k ≡ Reserved
    beyond k l (yes p) (yes q) = x.inside k p q ∙ past k p q l
    beyond k l (yes p) (no q) = x.others k (λ _ h. q h) ∙ c.beyond k l
    beyond k l (no p) d = x.others k (λ h _. p h) ∙ c.beyond k l

    zero : (k : ℕ) → state t' o' k ≡ Free → Dec (a ≤ k) → Dec (k < b) → Zero w' k
    zero k e (yes p) (yes q) = wiped k p q (sym (x.inside k p q) ∙ e)
    zero k e (yes p) (no q) = same_zero w w' k (same k (λ _ h. q h)) (c.zero k (sym (x.others k (λ _ h. q h)) ∙ e))
    zero k e (no p) d = same_zero w w' k (same k (λ h _. p h)) (c.zero k (sym (x.others k (λ h _. p h)) ∙ e))

-- what is a client's is not free
pub client_not_free : (c : ℕ) → Owned c ≡ Free → ⊥
client_not_free c e = absurd (let z : ◌≡◌ {A = ℕ} 0 1 = cc in omega arith)

pub reserved_not_free : Reserved ≡ Free → ⊥
reserved_not_free e = not_reserved (sym e)
