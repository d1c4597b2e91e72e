-- What is said of a request that names a kind or a set by a number. Assumes nothing.
use mathlib.Core.Path.{◌≡◌, subst}
use mathlib.Core.List.{List}
use Prim.Native.Nat.{ℕ, ◌≤◌, ◌<◌}
use native.Mathlib.Omega.{arith}
use Rattle.machine.specs.declared.Answer.{Answer}
use Rattle.machine.specs.declared.Request.{Request}
use Rattle.replayframes_machines.specs.Machines.{Named, ServedZones}

-- nothing has the number
pub unnamed : {n last why r : ℕ} {Kept Answered : Type 0} → last < n → r ≡ why → Kept → Named n last why r Kept Answered
unnamed {n} {last} l e k = record { known = λ (small : n ≤ last). absurd (omega (arith, l, small)); unknown = λ (large : last < n). (e, k) }

-- something has the number
pub named : {n last why r : ℕ} {Kept Answered : Type 0} → n ≤ last → Answered → Named n last why r Kept Answered
named {n} {last} small a = record { known = λ (l : n ≤ last). a; unknown = λ (large : last < n). absurd (omega (arith, small, large)) }

-- a request about x is one about y, where they are the same
pub about : {A : Type 0} (q : A → Request) {table zones zones' : List ℕ} {number : ℕ} {a : Answer} {x y : A} → x ≡ y → ServedZones table zones number (q x) zones' a → ServedZones table zones number (q y) zones' a
about {A} q {table} {zones} {zones'} {number} {a} e s = subst (λ (z : A). ServedZones table zones number (q z) zones' a) e s
