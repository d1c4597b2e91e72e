-- What is given and given back keeps the memories clean. Assumes nothing.
use mathlib.Core.Path.{◌≡◌, refl, sym, ◌∙◌}
use mathlib.Core.List.{List}
use Prim.Native.Nat.{ℕ, ◌+◌, ◌≤◌, ◌<◌}
use native.Mathlib.Omega.{arith}
use Rattle.owners.specs.States.{State.Free, State.Owned, state}
use Rattle.owners.specs.Writes.{Assigned}
use Rattle.owners.proofs.States.{not_reserved}
use Rattle.claims.specs.Returns.{Mine, RunMine}
use Rattle.global_allocator.specs.Changes as shared
use Rattle.global_allocator.proofs.Writes.{freed, run_freed}
use Rattle.contents.specs.Contents.{frames_in, Backed, Wiped, Clean}
use Rattle.frames.specs.Frames.{Gave, GaveRun, TookBack, TookRunBack}
use Rattle.contents.proofs.Cleaning.{clean_after, client_not_free}

-- a free frame has contents
free_inside : (base : ℕ) (t o w : List ℕ) (k : ℕ) → Clean base t o w → state t o k ≡ Free → frames_in w ≤ k → ⊥
free_inside base t o w k c e l = not_reserved (sym e ∙ c.beyond k l)

pub gave : (base : ℕ) (t o w : List ℕ) (c addr : ℕ) (t' o' : List ℕ) → Backed o w → shared.Gave base t o c addr t' o' → Gave base t o w c addr t' o'
gave base t o w c addr t' o' b g = record {
  backed = b;
  gave = g;
  empty = λ q. q.zero g.frame g.offered.free;
  clean = λ q. clean_after base t o w g.frame (g.frame + 1) (Owned c) t' o' w q (g.accounted q.accounted) g.change refl (λ k p h l. absurd (free_inside base t o w g.frame q g.offered.free (omega arith))) (λ k p h e. absurd (client_not_free c e)) (λ k n i l. refl);
}

pub gave_run : (base : ℕ) (t o w : List ℕ) (c size a addr : ℕ) (t' o' : List ℕ) → Backed o w → shared.GaveRun base t o c size a addr t' o' → GaveRun base t o w c size a addr t' o'
gave_run base t o w c size a addr t' o' b g = record {
  backed = b;
  gave = g;
  empty = λ q k p h. q.zero k (g.offered.run.free k p h);
  clean = λ q. clean_after base t o w g.first (g.first + size) (Owned c) t' o' w q (g.accounted q.accounted) g.change refl (λ k p h l. absurd (free_inside base t o w k q (g.offered.run.free k p h) l)) (λ k p h e. absurd (client_not_free c e)) (λ k n i l. refl);
}

module _ (base : ℕ) (t o w : List ℕ) (c addr : ℕ) (t' o' w' : List ℕ) (b : Backed o w) where
  pub took_back : (k : ℕ) → Mine base t o c addr k → Assigned t o k (k + 1) 1 255 t' o' → Wiped w k (k + 1) w' → k < frames_in w → TookBack base t o w c addr t' o' w'
  unfolding freed
  took_back k m a x l = let g = freed base t o c t' o' addr k m a in record {
    backed = b;
    took = g;
    inside = l;
    wiped = x;
    clean = λ q. clean_after base t o w k (k + 1) Free t' o' w' q (g.accounted q.accounted) g.change x.long (λ n p h y. absurd (omega arith)) (λ n p h _. x.inside n p h) x.outside;
  }

  pub took_run_back : (count k : ℕ) → RunMine base t o c addr count k → Assigned t o k (k + count) 1 255 t' o' → Wiped w k (k + count) w' → k + count ≤ frames_in w → TookRunBack base t o w c addr count t' o' w'
  unfolding run_freed
  took_run_back count k m a x l = let g = run_freed base t o c t' o' addr count k m a in record {
    backed = b;
    took = g;
    inside = l;
    wiped = x;
    clean = λ q. clean_after base t o w k (k + count) Free t' o' w' q (g.accounted q.accounted) g.change x.long (λ n p h y. absurd (omega arith)) (λ n p h _. x.inside n p h) x.outside;
  }
