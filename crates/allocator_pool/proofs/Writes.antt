-- From what was written to what the contracts say. Assumes nothing.
use mathlib.Core.Path.{refl}
use mathlib.Core.List.{List}
use Prim.Native.Nat.{ℕ, ◌+◌, ◌*◌, ◌^◌, ◌<◌}
use native.Mathlib.Omega.{arith}
use Rattle.owners.specs.States.{State.Free, State.Reserved}
use Rattle.owners.specs.Writes.{Assigned}
use Rattle.owners.proofs.Writes.{became, still, free_right, reserved_right}
use Rattle.claims.specs.Returns.{Changeable}
use Rattle.allocator_pool.specs.Changes.{Opened, Closed}

module _ (base : ℕ) (t o : List ℕ) (a b : ℕ) (t' o' : List ℕ) (x : Changeable base t o a b) where
  pub opened : base + 4096 * b < 2 ^ 64 → Assigned t o a b 1 255 t' o' → Opened base t o a b t' o'
  opened p w = record {
    may = x;
    placed = p;
    change = became t o a b 1 255 t' o' w Free refl;
    accounted = λ g. still t o a b 1 255 t' o' w base g (λ m l h. free_right base m (omega arith));
  }

  pub closed : Assigned t o a b 0 255 t' o' → Closed base t o a b t' o'
  closed w = record {
    may = x;
    change = became t o a b 0 255 t' o' w Reserved refl;
    accounted = λ g. still t o a b 0 255 t' o' w base g (λ m l h. reserved_right base m);
  }
