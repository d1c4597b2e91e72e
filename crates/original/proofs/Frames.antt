-- The sets of free and of owned frames. Assumes nothing.
use mathlib.Core.Path.{◌≡◌, refl, sym, ◌∙◌, ap, fun_ext}
use mathlib.Core.Bool.{Bool, true, false, not, ◌&&◌, ◌||◌}
use mathlib.Core.List.{List}
use Prim.Native.Nat.{ℕ, ◌+◌, ◌≤◌, ◌<◌, zero-le}
use native.Mathlib.Decide.{dec_lt}
use native.Mathlib.Omega.{arith}
use lib.Dec.{eqb, ltb}
use lib.ListN.{get_or}
use borrow.Author.Tests.{eq-eqb, ltb-true, ltb-false, lt-ltb, le-ltb}
use Rattle.base.specs.Choices.{pick, at, within, at_run}
use Rattle.bitmap_tree.specs.Tree.{free, cap}
use Rattle.owners.specs.States.{State, State.Free, State.Reserved, State.Owned, by_tests, state, Matched}
use Rattle.owners.specs.Writes.{Became}
use Rattle.owners.proofs.States.{state_of_lem, state_told, not_reserved, client_not_reserved, behind_reserved}
use Rattle.owner_passes.specs.Passes.{Begun}
use Rattle.claims.proofs.Offers.{free_within}
use Rattle.global_allocator.specs.Changes.{Gave, GaveRun, TookBack, TookRunBack}
use Rattle.global_allocator.proofs.Theorems.{SameFrames, alloc_others, run_others, dealloc_others, run_dealloc_others}
use Rattle.contents.specs.Contents.{frames_in, Clean}
use Rattle.machine.specs.State.{is_free, is_mine}
use Rattle.machine.proofs.Frames.{free_is, is_free_lem, mine_is, is_mine_lem, free_not_owned, owned_once}
use Rattle.original.specs.Terms.{view, Set, nothing, below, insert, remove, union, difference, Subset, Disjoint, free_set, owned_set, fid_of}
use Rattle.original.proofs.Addresses.{frame_number}
use Rattle.original.proofs.Changes.{same_tests, told_at, told_run}

-- ---- what holds at any time

-- A frame is free exactly if its place in the view is true.
pub free_set_view : (t o : List ℕ) → free_set (state t o) ≡ (view t).place
free_set_view t o = fun_ext (λ k. ap is_free (state_of_lem t o k) ∙ go (eqb (free t k) 1) (ltb (get_or o k 255) 64) (get_or o k 255))
  where
    go : (b named : Bool) (c : ℕ) → is_free (by_tests b named c) ≡ b
    go true named c = refl
    go false true c = refl
    go false false c = refl

-- No client's frame is free, and no two clients have a frame in common.
pub client_free_disjoint : (f : ℕ → State) (c : ℕ) → Disjoint (owned_set f c) (free_set f)
client_free_disjoint f c k x y = free_not_owned c (sym (free_is (f k) y) ∙ mine_is c (f k) x)

pub clients_disjoint : (f : ℕ → State) (c d : ℕ) → (c ≡ d → ⊥) → Disjoint (owned_set f c) (owned_set f d)
clients_disjoint f c d n k x y = n (owned_once c d (sym (mine_is c (f k) x) ∙ mine_is d (f k) y))

-- where everything behind n is reserved, all that is free or owned is below n
module _ (f : ℕ → State) (n : ℕ) (behind : (k : ℕ) → n ≤ k → f k ≡ Reserved) where
  not_reserved_below : (k : ℕ) → (f k ≡ Reserved → ⊥) → below n k ≡ true
  not_reserved_below k d = go (dec_lt k n)
    where
      go : Dec (k < n) → below n k ≡ true
      go (yes l) = lt-ltb k n l
      go (no g) = absurd (d (behind k (omega (arith, g))))

  free_below : Subset (free_set f) (below n)
  free_below k e = not_reserved_below k (λ r. not_reserved (sym (free_is (f k) e) ∙ r))

  client_below : (c : ℕ) → Subset (owned_set f c) (below n)
  client_below c k e = not_reserved_below k (λ r. client_not_reserved c (sym (mine_is c (f k) e) ∙ r))

-- What is free or owned is below the capacity, and has contents where the memories are clean.
pub free_within_cap : (t o : List ℕ) → Subset (free_set (state t o)) (below (cap t))
free_within_cap t o k e = lt-ltb k (cap t) (free_within t k (state_told t o k Free (free_is (state t o k) e)))

pub client_within_cap : (t o : List ℕ) → Matched t o → (c : ℕ) → Subset (owned_set (state t o) c) (below (cap t))
client_within_cap t o m = client_below (state t o) (cap t) (λ k l. behind_reserved t o k m.bytes l)

pub free_backed : (base : ℕ) (t o w : List ℕ) → Clean base t o w → Subset (free_set (state t o)) (below (frames_in w))
free_backed base t o w x = free_below (state t o) (frames_in w) x.beyond

pub client_backed : (base : ℕ) (t o w : List ℕ) → Clean base t o w → (c : ℕ) → Subset (owned_set (state t o) c) (below (frames_in w))
client_backed base t o w x = client_below (state t o) (frames_in w) x.beyond

-- ---- at the start

module _ (t o : List ℕ) (n : ℕ) (t' o' : List ℕ) (x : Begun t o n t' o') where
  -- After `init` the free frames are those below the size, and nobody owns one.
  pub init_free_set : free_set (state t' o') ≡ below n
  init_free_set = fun_ext (λ k. go k (ltb k n) refl)
    where
      go : (k : ℕ) (b : Bool) → ltb k n ≡ b → free_set (state t' o') k ≡ b
      go k true e = is_free_lem (state t' o' k) (x.free k (ltb-true k n e))
      go k false e = ap is_free (x.reserved k (ltb-false k n e))

  pub init_client_set : (c : ℕ) → owned_set (state t' o') c ≡ nothing
  init_client_set c = fun_ext (λ k. go k (dec_lt k n))
    where
      go : (k : ℕ) → Dec (k < n) → owned_set (state t' o') c k ≡ false
      go k (yes l) = ap (is_mine c) (x.free k l)
      go k (no g) = ap (is_mine c) (x.reserved k (omega (arith, g)))

-- With the size 0 nothing is free.
pub init_nothing_free : (t o t' o' : List ℕ) → Begun t o 0 t' o' → free_set (state t' o') ≡ nothing
init_nothing_free t o t' o' x = init_free_set t o 0 t' o' x ∙ fun_ext (λ k. le-ltb k 0 zero-le)

-- ---- changes

-- a set that a run enters is its union with the run, and one that it leaves the difference
run_enters : (s : Set ℕ) (k n : ℕ) → at_run s k n true ≡ union s (within k n)
run_enters s k n = fun_ext (λ m. go (s m) (within k n m))
  where
    go : (x r : Bool) → pick r true x ≡ (x || r)
    go true true = refl
    go true false = refl
    go false true = refl
    go false false = refl

run_leaves : (s : Set ℕ) (k n : ℕ) → at_run s k n false ≡ difference s (within k n)
run_leaves s k n = fun_ext (λ m. go (s m) (within k n m))
  where
    go : (x r : Bool) → pick r false x ≡ (x && not r)
    go true true = refl
    go true false = refl
    go false true = refl
    go false false = refl

-- a client that has the same frames before and after
same_set : (t o t' o' : List ℕ) (d : ℕ) → SameFrames t o t' o' (Owned d) → owned_set (state t' o') d ≡ owned_set (state t o) d
same_set t o t' o' d same =
    fun_ext
    (λ k. same_tests (is_mine d (state t' o' k)) (is_mine d (state t o k)) (λ e. is_mine_lem d (state t o k) ((same k).0 (mine_is d (state t' o' k) e))) (λ e. is_mine_lem d (state t' o' k) ((same k).1 (mine_is d (state t o k) e))))

-- one frame, or the n frames from k on, became s: what a test says of all
module _ (p : State → Bool) (t o : List ℕ) (k : ℕ) (s : State) (t' o' : List ℕ) where
  one_became : Became t o k (k + 1) s t' o' → (λ m. p (state t' o' m)) ≡ at (λ m. p (state t o m)) k (p s)
  one_became c = told_at p (state t o) (state t' o') k s c.inside c.others

  run_became : (n : ℕ) → Became t o k (k + n) s t' o' → (λ m. p (state t' o' m)) ≡ at_run (λ m. p (state t o m)) k n (p s)
  run_became n c = told_run p (state t o) (state t' o') k n s c.inside c.others

module _ (base : ℕ) (t o : List ℕ) (c addr : ℕ) (t' o' : List ℕ) where
  -- After `alloc` the free frames are without the frame at the address, the client has it besides, and every other client has what it had.
  pub alloc_free_set : Gave base t o c addr t' o' → free_set (state t' o') ≡ remove (free_set (state t o)) (fid_of base addr)
  alloc_free_set g = rw (frame_number base g.frame addr g.place) (one_became is_free t o g.frame (Owned c) t' o' g.change)

  pub alloc_client_set : Gave base t o c addr t' o' → owned_set (state t' o') c ≡ insert (owned_set (state t o) c) (fid_of base addr)
  alloc_client_set g = rw (frame_number base g.frame addr g.place) (one_became (is_mine c) t o g.frame (Owned c) t' o' g.change ∙ ap (at (owned_set (state t o) c) g.frame) (eq-eqb c c refl))

  pub alloc_others_set : Gave base t o c addr t' o' → (d : ℕ) → (c ≡ d → ⊥) → owned_set (state t' o') d ≡ owned_set (state t o) d
  alloc_others_set g d n = same_set t o t' o' d (alloc_others base t o c addr t' o' (Owned d) (free_not_owned d) (λ e. n (owned_once c d e)) g)

  -- After `dealloc` the free frames have the frame at the address besides, the client is without it, and every other client has what it had.
  pub dealloc_free_set : TookBack base t o c addr t' o' → free_set (state t' o') ≡ insert (free_set (state t o)) (fid_of base addr)
  dealloc_free_set g = rw (frame_number base g.frame addr g.mine.place) (one_became is_free t o g.frame Free t' o' g.change)

  pub dealloc_client_set : TookBack base t o c addr t' o' → owned_set (state t' o') c ≡ remove (owned_set (state t o) c) (fid_of base addr)
  dealloc_client_set g = rw (frame_number base g.frame addr g.mine.place) (one_became (is_mine c) t o g.frame Free t' o' g.change)

  pub dealloc_others_set : TookBack base t o c addr t' o' → (d : ℕ) → (c ≡ d → ⊥) → owned_set (state t' o') d ≡ owned_set (state t o) d
  dealloc_others_set g d n = same_set t o t' o' d (dealloc_others base t o c addr t' o' (Owned d) (free_not_owned d) (λ e. n (owned_once c d e)) g)

  -- After `alloc_contiguous` the same of the run.
  pub run_free_set : (size a : ℕ) → GaveRun base t o c size a addr t' o' → free_set (state t' o') ≡ difference (free_set (state t o)) (within (fid_of base addr) size)
  run_free_set size a g = rw (frame_number base g.first addr g.place) (run_became is_free t o g.first (Owned c) t' o' size g.change ∙ run_leaves (free_set (state t o)) g.first size)

  pub run_client_set : (size a : ℕ) → GaveRun base t o c size a addr t' o' → owned_set (state t' o') c ≡ union (owned_set (state t o) c) (within (fid_of base addr) size)
  run_client_set size a g = rw (frame_number base g.first addr g.place) (run_became (is_mine c) t o g.first (Owned c) t' o' size g.change ∙ ap (at_run (owned_set (state t o) c) g.first size) (eq-eqb c c refl) ∙ run_enters (owned_set (state t o) c) g.first size)

  pub run_others_set : (size a : ℕ) → GaveRun base t o c size a addr t' o' → (d : ℕ) → (c ≡ d → ⊥) → owned_set (state t' o') d ≡ owned_set (state t o) d
  run_others_set size a g d n = same_set t o t' o' d (run_others base t o c addr t' o' (Owned d) (free_not_owned d) (λ e. n (owned_once c d e)) size a g)

  -- After `dealloc_contiguous` the same of the run.
  pub run_dealloc_free_set : (count : ℕ) → TookRunBack base t o c addr count t' o' → free_set (state t' o') ≡ union (free_set (state t o)) (within (fid_of base addr) count)
  run_dealloc_free_set count g = rw (frame_number base g.first addr g.mine.place) (run_became is_free t o g.first Free t' o' count g.change ∙ run_enters (free_set (state t o)) g.first count)

  pub run_dealloc_client_set : (count : ℕ) → TookRunBack base t o c addr count t' o' → owned_set (state t' o') c ≡ difference (owned_set (state t o) c) (within (fid_of base addr) count)
  run_dealloc_client_set count g = rw (frame_number base g.first addr g.mine.place) (run_became (is_mine c) t o g.first Free t' o' count g.change ∙ run_leaves (owned_set (state t o) c) g.first count)

  pub run_dealloc_others_set : (count : ℕ) → TookRunBack base t o c addr count t' o' → (d : ℕ) → (c ≡ d → ⊥) → owned_set (state t' o') d ≡ owned_set (state t o) d
  run_dealloc_others_set count g d n = same_set t o t' o' d (run_dealloc_others base t o c addr t' o' (Owned d) (free_not_owned d) (λ e. n (owned_once c d e)) count g)
