-- `machine_codes::which_of` meets its contract. Assumes nothing.
use mathlib.Core.Path.{◌≡◌, refl, sym, ap}
use Prim.Native.Nat.{ℕ, zero, suc}
use native.Mathlib.Omega.{arith}
use Rattle.machine.specs.declared.Which.{Which}
use Rattle.machine_codes.specs.Codes.{which_of}
use Rattle.machine_codes.proofs.which_of.Goals as goal

-- a number that is not 0 reads as the devices'
other : (n : ℕ) → (n ≡ 0 → ⊥) → Which.Devices ≡ which_of n
unfolding which_of
other zero no_zero = absurd (no_zero refl)
other (suc n) no_zero = refl

pub returns-in-0 : goal.returns-in-0
unfolding which_of
returns-in-0 c = sym (ap which_of c.in-0.is)

pub returns-in_default : goal.returns-in_default
returns-in_default c = other c.args.n (omega arith)
