-- Theorems on the public contracts: what a success leaves alone, how many frames a client owns after it, and where an aligned run stands.
-- They follow from the contracts alone, for every size. Assumes nothing.
use mathlib.Core.Path.{◌≡◌, refl, sym, ◌∙◌, ap}
use mathlib.Core.List.{List}
use Prim.Native.Nat.{ℕ, ◌+◌, ◌-◌, ◌*◌, ◌/◌, ◌%◌, ◌^◌, ◌≤◌, ◌<◌}
use native.Mathlib.Nat.{div-add-mod', mul-mod_left, add-mul, mul_left_comm, mul-one, mul-zero}
use native.Mathlib.Decide.{dec_le, dec_lt}
use native.Mathlib.Omega.{arith}
use Rattle.base.proofs.Counts.{many_change}
use Rattle.bitmap_tree.specs.Tree.{cap}
use Rattle.owners.specs.States.{State, State.Free, State.Owned, state}
use Rattle.owners.specs.Writes.{Became}
use Rattle.owner_passes.specs.Passes.{owns, owned_by}
use Rattle.owner_passes.proofs.Counting.{owns_one}
use Rattle.global_allocator.specs.Changes.{Gave, GaveRun, TookBack, TookRunBack}

-- ---- what is left alone

-- the same frames are x before and after
abbrev pub SameFrames : List ℕ → List ℕ → List ℕ → List ℕ → State → Type 0
SameFrames t o t' o' x = (k : ℕ) → (state t' o' k ≡ x → state t o k ≡ x) × (state t o k ≡ x → state t' o' k ≡ x)

-- where the frames from a up to b were u and became s, the frames that are x, which is neither, are the same
same_frames : (t o : List ℕ) (a b : ℕ) (u s : State) (t' o' : List ℕ) (x : State) → Became t o a b s t' o' → ((k : ℕ) → a ≤ k → k < b → state t o k ≡ u)
    → (u ≡ x → ⊥) → (s ≡ x → ⊥) → SameFrames t o t' o' x
same_frames t o a b u s t' o' x c was n m k = go (dec_le a k) (dec_lt k b)
  where
    go : Dec (a ≤ k) → Dec (k < b) → (state t' o' k ≡ x → state t o k ≡ x) × (state t o k ≡ x → state t' o' k ≡ x)
    go (yes p) (yes q) = (λ e. absurd (m (sym (c.inside k p q) ∙ e)), λ e. absurd (n (sym (was k p q) ∙ e)))
    go (yes p) (no q) = let e = c.others k (λ _ h. q h) in (λ y. sym e ∙ y, λ y. e ∙ y)
    go (no p) d = let e = c.others k (λ h _. p h) in (λ y. sym e ∙ y, λ y. e ∙ y)

-- the state of the single frame of a range of one
at_one : (t o : List ℕ) (s : State) (k : ℕ) → state t o k ≡ s → (m : ℕ) → k ≤ m → m < k + 1 → state t o m ≡ s
at_one t o s k p m l h = let e : m ≡ k = omega arith in rw e p

module _ (base : ℕ) (t o : List ℕ) (c addr : ℕ) (t' o' : List ℕ) (x : State) (free : Free ≡ x → ⊥) (mine : Owned c ≡ x → ⊥) where
  -- what is reserved or another client's is the same after alloc, after a run, and after either is given back
  pub alloc_others : Gave base t o c addr t' o' → SameFrames t o t' o' x
  alloc_others g = same_frames t o g.frame (g.frame + 1) Free (Owned c) t' o' x g.change (at_one t o Free g.frame g.offered.free) free mine

  pub run_others : (size a : ℕ) → GaveRun base t o c size a addr t' o' → SameFrames t o t' o' x
  run_others size a g = same_frames t o g.first (g.first + size) Free (Owned c) t' o' x g.change g.offered.run.free free mine

  pub dealloc_others : TookBack base t o c addr t' o' → SameFrames t o t' o' x
  dealloc_others g = same_frames t o g.frame (g.frame + 1) (Owned c) Free t' o' x g.change (at_one t o (Owned c) g.frame g.mine.owned) mine free

  pub run_dealloc_others : (count : ℕ) → TookRunBack base t o c addr count t' o' → SameFrames t o t' o' x
  run_dealloc_others count g = same_frames t o g.first (g.first + count) (Owned c) Free t' o' x g.change g.mine.owned mine free

-- ---- how many frames a client owns

-- where the frames from a up to b were u and became s
owned_change : (t o : List ℕ) (a b : ℕ) (u s : State) (t' o' : List ℕ) (c : ℕ) → a ≤ b → b ≤ cap t → Became t o a b s t' o' → ((k : ℕ) → a ≤ k → k < b → state t o k ≡ u)
    → owned_by t' o' c + (b - a) * owns c u ≡ owned_by t o c + (b - a) * owns c s
owned_change t o a b u s t' o' c l h x was =
    rw x.words
    (many_change (λ k. owns c (state t o k)) (λ k. owns c (state t' o' k)) a b (cap t) (owns c u) (owns c s) l h (λ k p q. ap (owns c) (was k p q)) (λ k p q. ap (owns c) (x.inside k p q))
    (λ k n. ap (owns c) (x.others k n)))

-- a run that is given is as many frames more for its client, and one that is given back as many less
pub run_owned : (base : ℕ) (t o : List ℕ) (c size a addr : ℕ) (t' o' : List ℕ) → GaveRun base t o c size a addr t' o' → owned_by t' o' c ≡ owned_by t o c + size
run_owned base t o c size a addr t' o' g =
    let e = owned_change t o g.first (g.first + size) Free (Owned c) t' o' c (omega arith) g.offered.run.fits g.change g.offered.run.free in
    let one = owns_one c (Owned c) refl in
    let d : g.first + size - g.first ≡ size = omega arith in
    let f : owned_by t' o' c + size * 0 ≡ owned_by t o c + size * 1 = rw (d, one) at e in
    omega (arith, mul-one size, mul-zero size)

pub run_dealloc_owned : (base : ℕ) (t o : List ℕ) (c addr count : ℕ) (t' o' : List ℕ) → TookRunBack base t o c addr count t' o' → owned_by t o c ≡ owned_by t' o' c + count
run_dealloc_owned base t o c addr count t' o' g =
    let e = owned_change t o g.first (g.first + count) (Owned c) Free t' o' c (omega arith) g.mine.within g.change g.mine.owned in
    let one = owns_one c (Owned c) refl in
    let d : g.first + count - g.first ≡ count = omega arith in
    let f : owned_by t' o' c + count * 1 ≡ owned_by t o c + count * 0 = rw (d, one) at e in
    omega (arith, mul-one count, mul-zero count)

-- alloc is one frame more for its client, and dealloc one less
pub alloc_owned : (base : ℕ) (t o : List ℕ) (c addr : ℕ) (t' o' : List ℕ) → Gave base t o c addr t' o' → owned_by t' o' c ≡ owned_by t o c + 1
alloc_owned base t o c addr t' o' g =
    let w = g.offered.within in
    let e = owned_change t o g.frame (g.frame + 1) Free (Owned c) t' o' c (omega arith) (omega arith) g.change (at_one t o Free g.frame g.offered.free) in
    let one = owns_one c (Owned c) refl in
    let d : g.frame + 1 - g.frame ≡ 1 = omega arith in
    let f : owned_by t' o' c + 1 * 0 ≡ owned_by t o c + 1 * 1 = rw (d, one) at e in
    omega arith

pub dealloc_owned : (base : ℕ) (t o : List ℕ) (c addr : ℕ) (t' o' : List ℕ) → TookBack base t o c addr t' o' → owned_by t o c ≡ owned_by t' o' c + 1
dealloc_owned base t o c addr t' o' g =
    let w = g.mine.within in
    let e = owned_change t o g.frame (g.frame + 1) (Owned c) Free t' o' c (omega arith) (omega arith) g.change (at_one t o (Owned c) g.frame g.mine.owned) in
    let one = owns_one c (Owned c) refl in
    let d : g.frame + 1 - g.frame ≡ 1 = omega arith in
    let f : owned_by t' o' c + 1 * 1 ≡ owned_by t o c + 1 * 0 = rw (d, one) at e in
    omega arith

-- ---- alignment

-- where the base is a multiple of 4096 · 2 ^ a, so is the address of a run whose first frame is a multiple of 2 ^ a
aligned_address : (base s p : ℕ) → base % (4096 * p) ≡ 0 → s % p ≡ 0 → (base + 4096 * s) % (4096 * p) ≡ 0
aligned_address base s p e f =
    let b = div-add-mod' base (4096 * p) in
    let c = div-add-mod' s p in
    let m : s / p * (4096 * p) ≡ 4096 * (s / p * p) = mul_left_comm (s / p) 4096 p in
    let d : (base / (4096 * p) + s / p) * (4096 * p) ≡ base / (4096 * p) * (4096 * p) + s / p * (4096 * p) = add-mul (base / (4096 * p)) (s / p) (4096 * p) in
    let q : base + 4096 * s ≡ (base / (4096 * p) + s / p) * (4096 * p) = omega arith in
    rw q (mul-mod_left (base / (4096 * p) + s / p) (4096 * p))

pub run_address : (base : ℕ) (t o : List ℕ) (c size a addr : ℕ) (t' o' : List ℕ) → base % (4096 * 2 ^ a) ≡ 0 → GaveRun base t o c size a addr t' o' → addr % (4096 * 2 ^ a) ≡ 0
run_address base t o c size a addr t' o' e g = rw g.place (aligned_address base g.first (2 ^ a) e g.offered.run.aligned)
