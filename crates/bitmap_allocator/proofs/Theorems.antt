-- Theorems on the public contracts: a reset meets what they assume, and how many frames are free after each change. They follow from the
-- contracts alone, for every full tree, and so no size is a case of its own. Assumes nothing.
use mathlib.Core.Path.{◌≡◌, ◌∙◌}
use mathlib.Core.List.{List}
use Prim.Native.Nat.{ℕ, ◌+◌, ◌-◌, ◌*◌, ◌≤◌, ◌<◌}
use native.Mathlib.Nat.{mul-one, mul-zero, sub-zero}
use native.Mathlib.Omega.{arith}
use lib.ListN.{length}
use Rattle.base.proofs.Counts.{many_change, many_const}
use Rattle.bitmap_tree.specs.Tree.{free, cap, Full, Agree}
use Rattle.bitmap_tree.specs.Writes.{Changed}
use Rattle.std.proofs.Common.{Result, Ok, Err}
use Rattle.bitmap_tree.specs.declared.NotFull.{NotFull}
use Rattle.bitmap_looks.specs.Looks.{free_frames}
use Rattle.bitmap_allocator.specs.Changes.{Reset, ResetSays, Took, TookRun, Gave, SetRange}

-- whatever the words of a full tree hold, after reset they are a full tree whose summaries agree
pub reset_agrees : (t t' : List ℕ) (r : Result Unit NotFull) → Full (length t) → ResetSays t t' r → Full (length t') × Agree t'
reset_agrees t t' (Ok _) f x = (rw x.long f, x.agree)
reset_agrees t t' (Err _) f x = absurd (x.1 f)

-- ---- how many frames are free

-- the number of free frames, where the frames from a up to b change from u to v
changed_counts : (t t' : List ℕ) (a b u v : ℕ) → a ≤ b → b ≤ cap t → ((m : ℕ) → a ≤ m → m < b → free t m ≡ u) → Changed t a b v t'
    → free_frames t' + (b - a) * u ≡ free_frames t + (b - a) * v
changed_counts t t' a b u v l h was c =
    rw c.long (many_change (free t) (free t') a b (cap t) u v l h was c.inside c.others)

-- alloc leaves one free frame less
pub alloc_counts : (t : List ℕ) (k : ℕ) (t' : List ℕ) → Took t k t' → free_frames t ≡ free_frames t' + 1
alloc_counts t k t' x =
    let w = x.within in
    let e = changed_counts t t' k (k + 1) 1 0 (omega arith) (omega arith) (λ m l h. let q : m ≡ k = omega arith in rw q x.was) x.change in
    let d : k + 1 - k ≡ 1 = omega arith in
    let g : free_frames t' + 1 * 1 ≡ free_frames t + 1 * 0 = rw d at e in
    omega arith

-- dealloc leaves one free frame more
pub dealloc_counts : (t : List ℕ) (k : ℕ) (t' : List ℕ) → Gave t k t' → free_frames t' ≡ free_frames t + 1
dealloc_counts t k t' x =
    let w = x.within in
    let e = changed_counts t t' k (k + 1) 0 1 (omega arith) (omega arith) (λ m l h. let q : m ≡ k = omega arith in rw q x.was) x.change in
    let d : k + 1 - k ≡ 1 = omega arith in
    let g : free_frames t' + 1 * 0 ≡ free_frames t + 1 * 1 = rw d at e in
    omega arith

-- a run that is taken leaves as many free frames less as it has
pub run_counts : (t : List ℕ) (size a base : ℕ) (t' : List ℕ) → TookRun t size a base t' → free_frames t ≡ free_frames t' + size
run_counts t size a base t' x =
    let e = changed_counts t t' base (base + size) 1 0 (omega arith) x.run.run.fits x.run.run.clear x.change in
    let d : base + size - base ≡ size = omega arith in
    let g : free_frames t' + size * 1 ≡ free_frames t + size * 0 = rw d at e in
    omega (arith, mul-one size, mul-zero size)

-- a tree that was reset has no free frame
pub reset_counts : (t t' : List ℕ) → Reset t t' → free_frames t' ≡ 0
reset_counts t t' r = many_const (free t') 0 (cap t') (λ k l. r.taken k (omega arith) l) ∙ mul-zero (cap t')

-- the first n frames inserted into a tree that was reset are exactly n free frames, and the summaries agree
pub fresh_counts : (t t' t'' : List ℕ) (n : ℕ) → Reset t t' → SetRange t' 0 n 1 t'' → (free_frames t'' ≡ n) × Agree t''
fresh_counts t t' t'' n r x =
    let z = reset_counts t t' r in
    let w = x.within in
    let e = changed_counts t' t'' 0 n 0 1 (omega arith) x.within (λ m l h. r.taken m l (omega arith)) x.change in
    let g : free_frames t'' + n * 0 ≡ free_frames t' + n * 1 = rw (sub-zero n) at e in
    (omega (arith, mul-one n, mul-zero n), x.change.agree r.agree)
