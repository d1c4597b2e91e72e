-- What a caller learns from an answer. Assumes nothing.
use mathlib.Core.Path.{◌≡◌, refl, sym, subst}
use mathlib.Core.Bool.{Bool, true, false, not, true≢false}
use Rattle.base.specs.Says.{Says}

-- what an answer says, once the answer is known
pub told : {A : Type 0} (P : A → Type 0) {x y : A} → x ≡ y → P x → P y
told P e p = subst P e p

-- what a function says yes or no to
pub said : {P : Type 0} (b : Bool) → b ≡ true → Says b P → P
said true e s = s
said false e s = absurd (true≢false (sym e))

pub unsaid : {P : Type 0} (b : Bool) → b ≡ false → Says b P → P → ⊥
unsaid false e s = s
unsaid true e s = absurd (true≢false e)

-- the same, where the caller asked `!answer`
pub not_refused : {P : Type 0} (b : Bool) → not b ≡ false → Says b P → P
not_refused true e s = s
not_refused false e s = absurd (true≢false e)

pub refused : {P : Type 0} (b : Bool) → not b ≡ true → Says b P → P → ⊥
refused false e s = s
refused true e s = absurd (true≢false (sym e))

-- an answer is right where it is in both cases
pub says_of : {P : Type 0} (b : Bool) → (b ≡ true → P) → (b ≡ false → P → ⊥) → Says b P
says_of true f g = f refl
says_of false f g = g refl

-- an answer about P is one about Q, where the two are the same
pub says_same : {P Q : Type 0} (b : Bool) → (P → Q) → (Q → P) → Says b P → Says b Q
says_same true to back s = to s
says_same false to back s = λ q. s (back q)
