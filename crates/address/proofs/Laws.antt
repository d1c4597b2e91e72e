-- What the proofs of the functions cite. Assumes nothing.
use mathlib.Core.Path.{◌≡◌, refl, sym, ap, ◌∙◌}
use mathlib.Core.Bool.{true≢false}
use Prim.Native.Nat.{ℕ, ◌/◌, ◌%◌}
use native.Mathlib.Nat.{mod-add-div', mul-mod_left}
use native.Mathlib.Omega.{arith}
use Rattle.std.specs.Prelude.{Err, Bool, true, false, IsTrue, ◌↔◌}
use Rattle.base.specs.Says.{Says}
use Rattle.address.specs.Pages.{Multiple}
use Rattle.address.specs.Regions.{Valid, ValiditySays}
use Rattle.address.specs.declared.Fault.{Fault}

-- a multiple is what leaves no remainder
pub no_rest : {size addr : ℕ} → Multiple size addr → addr % size ≡ 0
no_rest {size} m = ap (λ (x : ℕ). x % size) m.is ∙ mul-mod_left m.times size

pub from_no_rest : {size addr : ℕ} → addr % size ≡ 0 → Multiple size addr
from_no_rest {size} {addr} e = let s = mod-add-div' addr size in record { times = addr / size; is = omega arith }

pub said_of_rest : (size addr : ℕ) (b : Bool) → (IsTrue b ↔ (addr % size ≡ 0)) → Says b (Multiple size addr)
said_of_rest size addr true e = from_no_rest (e.0 refl)
said_of_rest size addr false e = λ m. true≢false (sym (e.1 (no_rest m)))

-- a region with a fault is not valid
pub faulty : {guest host pages : ℕ} (f : Fault) → ValiditySays guest host pages (Err f) → Valid guest host pages → ⊥
faulty Fault.NoPage s v = omega arith
faulty Fault.GuestStart s v = s.1 v.on.guest_start
faulty Fault.HostStart s v = s.2 v.on.host_start
faulty Fault.GuestEnd s v = s.1 v.guest_end
faulty Fault.HostEnd s v = s.2 v.host_end
