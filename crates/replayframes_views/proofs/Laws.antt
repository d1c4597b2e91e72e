-- From an answer about a set that is known to its code and its value. Assumes nothing.
use mathlib.Core.Path.{◌≡◌, refl, sym, ap, ◌∙◌, subst}
use mathlib.Core.Bool.{Bool, true, false}
use mir.Val.{bool_byte}
use Prim.Native.Nat.{ℕ, ◌≤◌, ◌<◌}
use Rattle.codes.specs.Codes.{Valued, no_set}
use Rattle.machine.specs.declared.Which.{Which}
use Rattle.machine_codes.specs.Codes.{which_of}
use Rattle.replayframes_views.specs.Views.{OfSet, OfSetSays, of_set_code, of_set_value, there_value}

-- a test as a number
pub there_byte : (b : Bool) → bool_byte b ≡ there_value b
there_byte true = refl
there_byte false = refl

-- no set has the number
pub no_set_lem : {A B : Type 0} (Says : Which → A → Type 0) (code : A → ℕ) (value : A → B → B) (which : ℕ) (old : B) → 1 < which → Valued (OfSetSays which Says) (of_set_code code) (of_set_value value) old old no_set
no_set_lem Says code value which old l = record { answer = OfSet.NoSet; says = l; is = refl; wrote = refl }

-- the answer about the set with the number turned out to be y
pub of_set : {A B : Type 0} (Says : Which → A → Type 0) (code : A → ℕ) (value : A → B → B) (which : ℕ) (set : Which) {old new : B} {r : ℕ} {x y : A} → which ≤ 1 → set ≡ which_of which → Says set x → x ≡ y → r ≡ code y → new ≡ value y old → Valued (OfSetSays which Says) (of_set_code code) (of_set_value value) old new r
of_set {A} Says code value which set {old} {x = x} l e s q c v = record { answer = OfSet.Answered x; says = (l, subst (λ (w : Which). Says w x) e s); is = c ∙ sym (ap code q); wrote = v ∙ sym (ap (λ (z : A). value z old) q) }
