-- What a search for a run can't answer here, where the original's contract accepts it. Assumes nothing.
use mathlib.Core.Path.{◌≡◌, ap}
use mathlib.Core.List.{List}
use Prim.Native.Nat.{ℕ, ◌≤◌}
use native.Mathlib.Nat.{zero-mod}
use native.Mathlib.Omega.{arith}
use lib.ListN.{length}
use Rattle.bitmap_tree.specs.Tree.{free, Full, Agree}
use Rattle.std.specs.Prelude.{Result, Ok, Err}
use Rattle.bitmap_search.specs.declared.Missed.{Missed}
use Rattle.bitmap_search.specs.declared.Missed.TheVariants.{Nothing, Corrupt}
use Rattle.bitmap_runs.specs.Runs.{Run, SearchSays}
use Rattle.bitmap_allocator.specs.declared.RunNotTaken.{RunNotTaken}
use Rattle.bitmap_allocator.specs.Changes.{RunSays}

-- frame 0, where it is free, is a run at every alignment
first_run : (t : List ℕ) (a : ℕ) → free t 0 ≡ 1 → Run t 1 a 0
first_run t a f = record { fits = omega arith; aligned = zero-mod _; clear = λ m lo hi. let e : m ≡ 0 = omega arith in rw e f }

-- Where frame 0 is free it is found and taken for 1 frame at any alignment, one above the capacity too.
pub first_found : (t : List ℕ) (a : ℕ) (r : Result ℕ Missed) → Agree t → free t 0 ≡ 1 → SearchSays t 1 a r → r ≡ Ok 0
first_found t a (Ok s) agree f x = let l = x.lowest agree 0 (first_run t a f) in ap Ok (omega arith)
first_found t a (Err Nothing) agree f x = absurd (x agree 0 (first_run t a f))
first_found t a (Err Corrupt) agree f x = absurd (x agree)

pub first_taken : (t : List ℕ) (a : ℕ) (t' : List ℕ) (r : Result ℕ RunNotTaken) → Full (length t) → Agree t → free t 0 ≡ 1 → RunSays t 1 a t' r → r ≡ Ok 0
first_taken t a t' (Ok s) full agree f x = let l = x.run.lowest agree 0 (first_run t a f) in ap Ok (omega arith)
first_taken t a t' (Err RunNotTaken.NoRoom) full agree f x = absurd (x.none agree 0 (first_run t a f))
first_taken t a t' (Err RunNotTaken.Corrupt) full agree f x = absurd (x.0.lie agree)
first_taken t a t' (Err RunNotTaken.Empty) full agree f x = let e = x.2 in absurd (omega arith)
first_taken t a t' (Err RunNotTaken.NotFull) full agree f x = absurd (x.1 full)

-- A run that is found or taken is not above another.
pub found_lowest : (t : List ℕ) (n a x y : ℕ) → Agree t → Run t n a x → SearchSays t n a (Ok y) → y ≤ x
found_lowest t n a x y agree run found = found.lowest agree x run

pub taken_lowest : (t : List ℕ) (n a x y : ℕ) (t' : List ℕ) → Agree t → Run t n a x → RunSays t n a t' (Ok y) → y ≤ x
taken_lowest t n a x y t' agree run took = took.run.lowest agree x run
