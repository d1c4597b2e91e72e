-- What counts as a client's frame. Assumes nothing.
use mathlib.Core.Path.{◌≡◌, refl, sym, ap}
use mathlib.Core.List.{List}
use mathlib.Core.Bool.{Bool, true, false}
use Prim.Native.Nat.{ℕ, suc, ◌+◌, ◌<◌}
use mir.Val.{bool_byte}
use native.Mathlib.Omega.{arith}
use lib.Dec.{eqb}
use lib.ListN.{get_or}
use borrow.Author.Tests.{eq-eqb, ne_eqb}
use Rattle.base.specs.Ranges.{how_many}
use Rattle.bitmap_tree.specs.Tree.{free}
use Rattle.bitmap_tree.proofs.Nodes.{bit_clear}
use Rattle.owners.specs.States.{State, State.Free, State.Reserved, State.Owned, state}
use Rattle.owners.proofs.States.{state_told}
use Rattle.owner_passes.specs.Passes.{owns, one}

-- a state that is the client's counts, and no other does
pub owns_one : (c : ℕ) (s : State) → s ≡ Owned c → owns c s ≡ 1
owns_one c s e = rw (e, eq-eqb c c refl)

pub owns_none : (c : ℕ) (s : State) → (s ≡ Owned c → ⊥) → owns c s ≡ 0
owns_none c Free n = refl
owns_none c Reserved n = refl
owns_none c (Owned d) n = rw (ne_eqb d c (λ e. n (ap Owned e)))

-- a yes or no as a number, where it says whether a state is the client's
pub owns_said : (c : ℕ) (s : State) (b : Bool) → (b ≡ true → s ≡ Owned c) → (b ≡ false → s ≡ Owned c → ⊥) → bool_byte b ≡ owns c s
owns_said c s true y n = sym (owns_one c s (y refl))
owns_said c s false y n = sym (owns_none c s (n refl))

pub owns_small : (c : ℕ) (s : State) → owns c s < 2
owns_small c Free = omega arith
owns_small c Reserved = omega arith
owns_small c (Owned d) = go (eqb d c)
  where
    go : (b : Bool) → one b < 2
    go true = omega arith
    go false = omega arith

-- by the byte and the bit
pub other_byte : (t o : List ℕ) (k c : ℕ) → (get_or o k 255 ≡ c → ⊥) → state t o k ≡ Owned c → ⊥
other_byte t o k c n e = n (state_told t o k (Owned c) e).1

pub free_bit : (t o : List ℕ) (k c : ℕ) → (free t k ≡ 0 → ⊥) → state t o k ≡ Owned c → ⊥
free_bit t o k c n e = n (bit_clear t _ (state_told t o k (Owned c) e).0)

-- one number more
pub many_next : (f : ℕ → ℕ) (n : ℕ) → how_many f (n + 1) ≡ how_many f n + f n
unfolding how_many
many_next f n = let e : n + 1 ≡ suc n = omega arith in rw e
