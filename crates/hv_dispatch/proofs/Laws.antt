-- A request that is known is served as what it is. Assumes nothing.
use mathlib.Core.Path.{◌≡◌, sym, subst}
use Prim.Native.Nat.{ℕ}
use Rattle.machine.specs.declared.Request.{Request}
use Rattle.machine.specs.declared.Answer.{Answer}
use Rattle.hv_state.specs.Memory.{Mem}
use Rattle.hv_state.specs.Serving.{Served}

-- q is served where it is the request q', and that is
pub as_asked : {b b' : Mem} {number : ℕ} {a : Answer} {q q' : Request} → q ≡ q' → Served b number q' b' a → Served b number q b' a
as_asked {b} {b'} {number} {a} e s = subst (λ (x : Request). Served b number x b' a) (sym e) s
