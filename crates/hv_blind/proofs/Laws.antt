-- What the allocator answers the client that asks serves the machine's request, where the frames are all 0. Assumes nothing.
use mathlib.Core.Path.{◌≡◌, sym, subst}
use mathlib.Core.List.{List}
use Rattle.std.specs.Prelude.{Ok, Err}
use Prim.Native.Nat.{ℕ, ◌+◌, ◌-◌}
use native.Mathlib.Omega.{arith}
use Rattle.owners.specs.Writes.{Kept}
use Rattle.contents.specs.Contents.{Clean, KeptAll}
use Rattle.claims.specs.declared.NoFrame.{NoFrame}
use Rattle.claims.specs.declared.NoRun.{NoRun}
use Rattle.claims.specs.declared.NotFreed.{NotFreed}
use Rattle.claims.specs.declared.RunNotFreed.{RunNotFreed}
use Rattle.global_allocator.specs.Changes.{AllocSays, RunSays, DeallocSays, DeallocRunSays}
use Rattle.frames.proofs.Cleaning.{gave, gave_run}
use Rattle.machine.specs.declared.Request.{Request}
use Rattle.machine.specs.declared.Request.TheVariants.{Alloc, AllocContiguous, Dealloc, DeallocContiguous}
use Rattle.machine.specs.declared.Answer.{Answer}
use Rattle.hv_state.specs.Memory.{Sound}
use Rattle.hv_state.specs.Serving.{Served, mem}
use Rattle.hv_asker.specs.declared.Client.{Client}
use Rattle.hv_asker.specs.Asking.{IsClient}
use Rattle.hv_answers.specs.Answers.{of_no_frame, of_no_run, of_not_freed, of_run_not_freed}
use Rattle.hv_frames.proofs.Laws as seen
use Rattle.hv_blind.specs.Blind.{Blank}
use Rattle.hv_blind.proofs.Blank.{where_sound, has_contents, blank_wiped, blank_clean}

module _ (t z tr o w : List ℕ) (blank : Blank w) (number : ℕ) (c : Client) (is : IsClient t z number c) where
  -- the frames are clean for the client's base
  clean : Sound (mem t z tr o w) → Clean c.base tr o w
  clean s = subst (λ (x : ℕ). Clean x tr o w) (sym is.base) s.frames

  -- a request that leaves the tree and the owners' bytes
  left : (q : Request) (a : Answer) (tr' o' : List ℕ) → Kept tr o tr' o' → (Sound (mem t z tr o w) → Served (mem t z tr o w) number q (mem t z tr' o' w) a) → Served (mem t z tr o w) number q (mem t z tr' o' w) a
  left q a tr' o' k s = where_sound (mem t z tr o w) number q (mem t z tr' o' w) a (λ r i. mem t z (k.words i) (k.bytes i) w) s

  all_kept : (tr' o' : List ℕ) → Kept tr o tr' o' → KeptAll tr o w tr' o' w
  all_kept tr' o' k = record { tree = k.words; bytes = k.bytes; words = λ i. w }

  pub alloc_at : (addr : ℕ) (tr' o' : List ℕ) → AllocSays c.base tr o c.client tr' o' (Ok addr) → Served (mem t z tr o w) number Alloc (mem t z tr' o' w) (Answer.Address addr)
  alloc_at addr tr' o' g = where_sound (mem t z tr o w) number Alloc (mem t z tr' o' w) (Answer.Address addr) (λ r. absurd r) (λ s. seen.alloc_at t z tr o w number c is addr tr' o' (gave c.base tr o w c.client addr tr' o' s.frames.backed g))

  pub alloc_no : (why : NoFrame) (tr' o' : List ℕ) (a : Answer) → AllocSays c.base tr o c.client tr' o' (Err why) → a ≡ of_no_frame why → Served (mem t z tr o w) number Alloc (mem t z tr' o' w) a
  alloc_no why tr' o' a g e = left Alloc a tr' o' g.0 (λ s. seen.alloc_no t z tr o w number c is why tr' o' a (g.0, s.frames.backed, g.1) e)

  pub run_at : (n a addr : ℕ) (tr' o' : List ℕ) → RunSays c.base tr o c.client n a tr' o' (Ok addr) → Served (mem t z tr o w) number (AllocContiguous n a) (mem t z tr' o' w) (Answer.Address addr)
  run_at n a addr tr' o' g = where_sound (mem t z tr o w) number (AllocContiguous n a) (mem t z tr' o' w) (Answer.Address addr) (λ r. absurd r) (λ s. seen.run_at t z tr o w number c is n a addr tr' o' (gave_run c.base tr o w c.client n a addr tr' o' s.frames.backed g))

  pub run_no : (n a : ℕ) (why : NoRun) (tr' o' : List ℕ) (x : Answer) → RunSays c.base tr o c.client n a tr' o' (Err why) → x ≡ of_no_run why → Served (mem t z tr o w) number (AllocContiguous n a) (mem t z tr' o' w) x
  run_no n a why tr' o' x g e = left (AllocContiguous n a) x tr' o' g.0 (λ s. seen.run_no t z tr o w number c is n a why tr' o' x (g.0, s.frames.backed, g.1) e)

  pub dealloc_done : (addr : ℕ) (tr' o' : List ℕ) → DeallocSays c.base tr o c.client addr tr' o' (Ok tt) → Served (mem t z tr o w) number (Dealloc addr) (mem t z tr' o' w) Answer.Done
  dealloc_done addr tr' o' g =
      let k = g.frame in
      where_sound (mem t z tr o w) number (Dealloc addr) (mem t z tr' o' w) Answer.Done (λ r. absurd r)
      (λ s. seen.dealloc_done t z tr o w number c is addr tr' o' w
      (record {
        backed = s.frames.backed;
        took = g;
        inside = has_contents c.base tr o w c.client k (clean s) g.mine.owned;
        wiped = blank_wiped w blank k (k + 1);
        clean = blank_clean w blank c.base tr o c.client k 1 tr' o' (λ j a b. let e : j ≡ k = omega arith in rw e g.mine.owned) g.change g.accounted;
      }))

  pub dealloc_no : (addr : ℕ) (why : NotFreed) (tr' o' : List ℕ) (a : Answer) → DeallocSays c.base tr o c.client addr tr' o' (Err why) → a ≡ of_not_freed why → Served (mem t z tr o w) number (Dealloc addr) (mem t z tr' o' w) a
  dealloc_no addr why tr' o' a g e = left (Dealloc addr) a tr' o' g.0 (λ s. seen.dealloc_no t z tr o w number c is addr why tr' o' w a (all_kept tr' o' g.0, s.frames.backed, g.1) e)

  pub dealloc_run_done : (addr n : ℕ) (tr' o' : List ℕ) → DeallocRunSays c.base tr o c.client addr n tr' o' (Ok tt) → Served (mem t z tr o w) number (DeallocContiguous addr n) (mem t z tr' o' w) Answer.Done
  dealloc_run_done addr n tr' o' g =
      let k = g.first in
      let p = g.mine.some in
      where_sound (mem t z tr o w) number (DeallocContiguous addr n) (mem t z tr' o' w) Answer.Done (λ r. absurd r)
      (λ s. seen.dealloc_run_done t z tr o w number c is addr n tr' o' w
      (record {
        backed = s.frames.backed;
        took = g;
        inside = (let l = has_contents c.base tr o w c.client (k + n - 1) (clean s) (g.mine.owned (k + n - 1) (omega arith) (omega arith)) in omega arith);
        wiped = blank_wiped w blank k (k + n);
        clean = blank_clean w blank c.base tr o c.client k n tr' o' g.mine.owned g.change g.accounted;
      }))

  pub dealloc_run_no : (addr n : ℕ) (why : RunNotFreed) (tr' o' : List ℕ) (a : Answer) → DeallocRunSays c.base tr o c.client addr n tr' o' (Err why) → a ≡ of_run_not_freed why → Served (mem t z tr o w) number (DeallocContiguous addr n) (mem t z tr' o' w) a
  dealloc_run_no addr n why tr' o' a g e = left (DeallocContiguous addr n) a tr' o' g.0 (λ s. seen.dealloc_run_no t z tr o w number c is addr n why tr' o' w a (all_kept tr' o' g.0, s.frames.backed, g.1) e)
