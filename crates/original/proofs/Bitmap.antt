-- The view of a tree as a sequence, and runs of frames. Assumes nothing.
use mathlib.Core.Path.{◌≡◌, ap}
use mathlib.Core.Bool.{Bool, true, false, not}
use mathlib.Core.List.{List}
use Prim.Native.Nat.{ℕ, ◌+◌, ◌-◌, ◌*◌, ◌%◌, ◌^◌, ◌≤◌, ◌<◌}
use lib.Dec.{eqb}
use native.Mathlib.Decide.{dec_lt, ℕ_discrete}
use native.Mathlib.Omega.{arith}
use borrow.Author.Tests.{eqb-true}
use Rattle.base.specs.Choices.{lowest}
use Rattle.base.proofs.Choices.{is_false, is_true, lowest_yes, lowest_before}
use Rattle.bitmap_tree.specs.Tree.{free, cap}
use Rattle.bitmap_tree.specs.Writes.{Changed}
use Rattle.bitmap_runs.specs.Runs.{Run}
use Rattle.bitmap_allocator.specs.Changes.{Took, TookRun, Gave, SetRange}
use Rattle.original.specs.Terms.{view, update, update_run, HasObstruction}
use Rattle.original.proofs.Changes.{told_at, told_run}

-- ---- the view as a sequence

-- a frame, or the n frames from k on, are v
one_changed : (t : List ℕ) (k v : ℕ) (t' : List ℕ) → Changed t k (k + 1) v t' → view t' ≡ update (view t) k (eqb v 1)
one_changed t k v t' c = λ i. record { len = 15 * c.long i + 1; place = told_at (λ b. eqb b 1) (free t) (free t') k v c.inside c.others i }

run_changed : (t : List ℕ) (k n v : ℕ) (t' : List ℕ) → Changed t k (k + n) v t' → view t' ≡ update_run (view t) k n (eqb v 1)
run_changed t k n v t' c = λ i. record { len = 15 * c.long i + 1; place = told_run (λ b. eqb b 1) (free t) (free t') k n v c.inside c.others i }

-- After `alloc` and `dealloc` the view is the one before, updated at the frame.
pub alloc_view : (t : List ℕ) (k : ℕ) (t' : List ℕ) → Took t k t' → view t' ≡ update (view t) k false
alloc_view t k t' x = one_changed t k 0 t' x.change

pub dealloc_view : (t : List ℕ) (k : ℕ) (t' : List ℕ) → Gave t k t' → view t' ≡ update (view t) k true
dealloc_view t k t' x = one_changed t k 1 t' x.change

-- After `alloc_contiguous` it is updated at the run, and after `insert` and `remove` at the range.
pub run_view : (t : List ℕ) (size a base : ℕ) (t' : List ℕ) → TookRun t size a base t' → view t' ≡ update_run (view t) base size false
run_view t size a base t' x = run_changed t base size 0 t' x.change

pub range_view : (t : List ℕ) (a b v : ℕ) (t' : List ℕ) → SetRange t a b v t' → view t' ≡ update_run (view t) a (b - a) (eqb v 1)
range_view t a b v t' x =
    let l = x.some in
    let e : a + (b - a) ≡ b = omega arith in
    run_changed t a (b - a) v t' (rw e x.change)

-- After every refusal it is the same.
pub kept_view : (t t' : List ℕ) → t' ≡ t → view t' ≡ view t
kept_view t t' e = ap view e

-- ---- runs

-- the frame j behind i is taken
abbrev taken : List ℕ → ℕ → ℕ → Bool
taken t i j = not ((view t).place (i + j))

-- Where there is no run, every start has an obstruction.
pub obstructed : (t : List ℕ) (size a : ℕ) → ((x : ℕ) → Run t size a x → ⊥) → (i : ℕ) → i + size ≤ cap t → HasObstruction (view t) i size (2 ^ a)
obstructed t size a none i l = aligned (ℕ_discrete (i % 2 ^ a) 0)
  where
    free_before : size ≤ lowest (taken t i) size → (m : ℕ) → i ≤ m → m < i + size → free t m ≡ 1
    free_before h m lo hi =
        let e : i + (m - i) ≡ m = omega arith in
        let f : (view t).place (i + (m - i)) ≡ true = is_true ((view t).place (i + (m - i))) (lowest_before (taken t i) size (m - i) (omega arith)) in
        eqb-true (free t m) 1 (rw e at f)

    go : i % 2 ^ a ≡ 0 → Dec (lowest (taken t i) size < size) → HasObstruction (view t) i size (2 ^ a)
    go e (yes h) = HasObstruction.Taken (i + lowest (taken t i) size) (omega arith) (omega arith) (is_false ((view t).place (i + lowest (taken t i) size)) (lowest_yes (taken t i) size h))
    go e (no h) = absurd (none i (record { fits = l; aligned = e; clear = free_before (omega (arith, h)) }))

    aligned : Dec (i % 2 ^ a ≡ 0) → HasObstruction (view t) i size (2 ^ a)
    aligned (yes e) = go e (dec_lt (lowest (taken t i) size) size)
    aligned (no d) = HasObstruction.Misaligned d
