-- From what was offered and written to what the contracts say. Assumes nothing.
use mathlib.Core.Path.{◌≡◌, refl}
use mathlib.Core.List.{List}
use Prim.Native.Nat.{ℕ, ◌+◌, ◌*◌}
use native.Mathlib.Omega.{arith}
use Rattle.owners.specs.States.{State.Free, State.Owned}
use Rattle.owners.specs.Writes.{Assigned}
use Rattle.owners.proofs.States.{of_owned, client_not_reserved}
use Rattle.owners.proofs.Writes.{became, still, owned_right, free_right, has_place}
use Rattle.claims.specs.Offers.{Offered, RunOffered}
use Rattle.claims.specs.Returns.{Mine, RunMine}
use Rattle.global_allocator.specs.Changes.{Gave, GaveRun, TookBack, TookRunBack}

module _ (base : ℕ) (t o : List ℕ) (c : ℕ) (t' o' : List ℕ) where
  pub gave : (k : ℕ) → Offered base t o c k → Assigned t o k (k + 1) 0 c t' o' → Gave base t o c (base + 4096 * k) t' o'
  gave k x w = record {
    frame = k;
    place = refl;
    offered = x;
    change = became t o k (k + 1) 0 c t' o' w (Owned c) (of_owned 0 c (λ e. omega arith) x.known.client);
    accounted = λ a. still t o k (k + 1) 0 c t' o' w base a (λ m l h. let e : m ≡ k = omega arith in owned_right base m c x.known.client (rw e x.placed));
  }

  pub gave_run : (size a s : ℕ) → RunOffered base t o c size a s → Assigned t o s (s + size) 0 c t' o' → GaveRun base t o c size a (base + 4096 * s) t' o'
  gave_run size a s x w = record {
    first = s;
    place = refl;
    offered = x;
    change = became t o s (s + size) 0 c t' o' w (Owned c) (of_owned 0 c (λ e. omega arith) x.known.client);
    accounted = λ g. still t o s (s + size) 0 c t' o' w base g (λ m l h. let p = x.placed in owned_right base m c x.known.client (omega arith));
  }

  unfoldable pub freed : (addr k : ℕ) → Mine base t o c addr k → Assigned t o k (k + 1) 1 255 t' o' → TookBack base t o c addr t' o'
  freed addr k x w = record {
    frame = k;
    mine = x;
    change = became t o k (k + 1) 1 255 t' o' w Free refl;
    accounted = λ a. still t o k (k + 1) 1 255 t' o' w base a (λ m l h. let e : m ≡ k = omega arith in free_right base m (rw e (has_place base t o k (Owned c) a x.within x.owned (client_not_reserved c))));
  }

  unfoldable pub run_freed : (addr count k : ℕ) → RunMine base t o c addr count k → Assigned t o k (k + count) 1 255 t' o' → TookRunBack base t o c addr count t' o'
  run_freed addr count k x w = record {
    first = k;
    mine = x;
    change = became t o k (k + count) 1 255 t' o' w Free refl;
    accounted = λ a. still t o k (k + count) 1 255 t' o' w base a (λ m l h. let f = x.within in free_right base m (has_place base t o m (Owned c) a (omega arith) (x.owned m l h) (client_not_reserved c)));
  }
