-- From an answer that is known to its code and its value. Assumes nothing.
use mathlib.Core.Path.{◌≡◌, sym, ap, ◌∙◌}
use Prim.Native.Nat.{ℕ}
use Rattle.codes.specs.Codes.{Coded, Valued}

-- the code of an answer that turned out to be y
pub coded : {A : Type 0} (Says : A → Type 0) (code : A → ℕ) {x y : A} → Says x → x ≡ y → Coded Says code (code y)
coded Says code {x} s e = record { answer = x; says = s; is = sym (ap code e) }

-- its code and its value
pub valued : {A B : Type 0} (Says : A → Type 0) (code : A → ℕ) (value : A → B → B) (old : B) {x y : A} → Says x → x ≡ y → Valued Says code value old (value y old) (code y)
valued {A} Says code value old {x} s e = record { answer = x; says = s; is = sym (ap code e); wrote = sym (ap (λ (z : A). value z old) e) }

-- the same, where another function made the code
pub coded_by : {A : Type 0} (Says : A → Type 0) (code : A → ℕ) {x y : A} {r : ℕ} → Says x → x ≡ y → r ≡ code y → Coded Says code r
coded_by Says code {x} s e c = record { answer = x; says = s; is = c ∙ sym (ap code e) }

pub valued_by : {A B : Type 0} (Says : A → Type 0) (code : A → ℕ) (value : A → B → B) {old new : B} {r : ℕ} {x y : A} → Says x → x ≡ y → r ≡ code y → new ≡ value y old → Valued Says code value old new r
valued_by {A} Says code value {old} {x = x} s e c v = record { answer = x; says = s; is = c ∙ sym (ap code e); wrote = v ∙ sym (ap (λ (z : A). value z old) e) }
