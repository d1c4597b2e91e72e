-- From what the searches find to what is offered. Assumes nothing.
use mathlib.Core.Path.{◌≡◌}
use mathlib.Core.List.{List}
use Prim.Native.Nat.{ℕ, ◌+◌, ◌-◌, ◌<◌}
use native.Mathlib.Decide.{dec_lt}
use native.Mathlib.Omega.{arith}
use lib.ListN.{length, get_or-eq_default}
use Rattle.std.specs.Prelude.{Err}
use Rattle.bitmap_tree.specs.Tree.{free, cap}
use Rattle.bitmap_tree.proofs.Nodes.{parent_none}
use Rattle.bitmap_search.specs.Found.{IsNext, NoneFrom}
use Rattle.bitmap_search.specs.declared.Missed.{Missed}
use Rattle.bitmap_runs.specs.Runs.{Run, LowestRun, SearchSays}
use Rattle.owners.specs.States.{State.Free, state, Placed}
use Rattle.owners.proofs.States.{state_told, free_state}
use Rattle.claims.specs.Offers.{Known, Offered, FreeRun, RunOffered, no_run, OfferRunSays}

-- a free frame is one of the tree's
pub free_within : (t : List ℕ) (m : ℕ) → free t m ≡ 1 → m < cap t
free_within t m e = go (dec_lt m (cap t))
  where
    go : Dec (m < cap t) → m < cap t
    go (yes l) = l
    go (no g) = absurd (let z = parent_none t (length t + m) (get_or-eq_default t 0 (omega (arith, g))) in omega arith)

module _ (base : ℕ) (t o : List ℕ) (c : ℕ) (known : Known base t o c) where
  -- the lowest free frame, if it has its place
  pub offered : (k : ℕ) → IsNext t 0 k → Placed base k → Offered base t o c k
  offered k x p = record {
    known = known;
    within = x.within;
    free = free_state t o k x.is;
    placed = p;
    lowest = λ a m l e. let z = x.first a m (omega arith) l in let s : free t m ≡ 1 = state_told t o m Free e in omega arith;
  }

-- no frame is free
pub none_free : (t o : List ℕ) → NoneFrom t 0 → (m : ℕ) → state t o m ≡ Free → ⊥
none_free t o n m e = let s : free t m ≡ 1 = state_told t o m Free e in let l = free_within t m s in let z = n m (omega arith) l in omega arith

-- a run of free frames, as the tree's bits and as the frames' states have it
pub run_of : (t o : List ℕ) (size a s : ℕ) → Run t size a s → FreeRun t o size a s
run_of t o size a s r = record { fits = r.fits; aligned = r.aligned; free = λ m l h. free_state t o m (r.clear m l h) }

pub of_run : (t o : List ℕ) (size a s : ℕ) → FreeRun t o size a s → Run t size a s
of_run t o size a s r = record { fits = r.fits; aligned = r.aligned; clear = λ m l h. state_told t o m Free (r.free m l h) }

-- what the search for a run missed is why none is given
pub run_missed : (base : ℕ) (t o : List ℕ) (c size a : ℕ) → Known base t o c → 0 < size → (m : Missed) → SearchSays t size a (Err m) → OfferRunSays base t o c size a (Err (no_run m))
run_missed base t o c size a known some Missed.Nothing s = (known, some, λ g x r. s g x (of_run t o size a x r))
run_missed base t o c size a known some Missed.Corrupt s = (known, some, λ g. s g.agree)

module _ (base : ℕ) (t o : List ℕ) (c size a s : ℕ) (known : Known base t o c) (some : 0 < size) (x : LowestRun t size a s) where
  -- the lowest run, if its last frame has its place
  pub run_offered : Placed base (s + size - 1) → RunOffered base t o c size a s
  run_offered p = record {
    known = known;
    some = some;
    run = run_of t o size a s x.run;
    placed = omega arith;
    lowest = λ g y r. x.lowest g y (of_run t o size a y r);
  }
