-- Requests for frames that are refused: the reason is the step's. Assumes nothing.
use mathlib.Core.Path.{◌≡◌, sym, ◌∙◌}
use mathlib.Core.List.{List}
use Prim.Native.Nat.{ℕ, ◌+◌, ◌-◌, ◌*◌, ◌/◌, ◌%◌, ◌<◌, ◌≤◌}
use native.Mathlib.Decide.{dec_lt}
use native.Mathlib.Omega.{arith}
use Rattle.base.proofs.Choices.{not_passed}
use Rattle.config_view.specs.Table.{table_config}
use Rattle.bitmap_tree.specs.Tree.{cap}
use Rattle.owners.specs.States.{State.Free, state, Accounted}
use Rattle.owners.proofs.States.{behind_reserved, not_reserved}
use Rattle.claims.specs.declared.Unfit.{Unfit}
use Rattle.claims.specs.declared.NoFrame.{NoFrame}
use Rattle.claims.specs.declared.NoRun.{NoRun}
use Rattle.claims.specs.declared.NotFreed.{NotFreed}
use Rattle.claims.specs.declared.RunNotFreed.{RunNotFreed}
use Rattle.claims.specs.Fits.{Misfit}
use Rattle.claims.specs.Offers.{Denied, RunDenied}
use Rattle.claims.specs.Returns.{Between, Refused, FirstOther, RunRefused}
use Rattle.machine.specs.declared.Request.TheVariants.{Alloc, AllocContiguous, Dealloc, DeallocContiguous}
use Rattle.machine.specs.Step.{machine_of, fits, first_other}
use Rattle.machine.proofs.Frames.{free_not_owned, run_free, run_aligned, run_within}
use Rattle.machine.proofs.Cases.{of_present, takes_none, takes_nothing, other_is, gives_below, gives_between, gives_at, back_none, back_outside, back_free, back_others}
use Rattle.hv_state.specs.Memory.{Mem, plan_of, decode, Sound}
use Rattle.hv_state.specs.Serving.{Served, mem}
use Rattle.hv_state.proofs.Serving.{refuses, unsound}
use Rattle.hv_asker.specs.Asking.{Here}
use Rattle.hv_answers.specs.Answers.{of_no_frame, of_no_run, of_not_freed, of_run_not_freed}

-- memories that are an allocator's fit
misfit : (base : ℕ) (t o : List ℕ) (why : Unfit) → Accounted base t o → Misfit base t o why → ⊥
misfit base t o Unfit.NotFull a m = m a.matched.full
misfit base t o Unfit.Unmatched a m = m.1 a.matched.bytes
misfit base t o Unfit.BadBase a m = m.1 a.aligned

module _ (t z tr o w : List ℕ) (number : ℕ) (h : Here t z number) where
  b : Mem
  b = mem t z tr o w

  m : ℕ
  m = machine_of (table_config t) number

  base : ℕ
  base = (table_config t).pool.host

  -- there are no more machines than clients
  client : 64 ≤ machine_of (table_config t) number → ⊥
  client l = let k = h.machine in omega arith

  -- a frame that is free is one of those that there are
  within : (k : ℕ) → state tr o k ≡ Free → Sound (mem t z tr o w) → k < cap tr
  within k e s = go (dec_lt k (cap tr))
    where
      go : Dec (k < cap tr) → k < cap tr
      go (yes l) = l
      go (no l) = absurd (not_reserved (sym e ∙ behind_reserved tr o k s.frames.accounted.matched.bytes (omega (arith, l))))

  pub denied : (why : NoFrame) → Denied (table_config t).pool.host tr o (machine_of (table_config t) number) why → Served (mem t z tr o w) number Alloc (mem t z tr o w) (of_no_frame why)
  unfolding b m base
  denied (NoFrame.Unfit why) d = unsound b number Alloc _ (λ s. misfit base tr o why s.frames.accounted d)
  denied NoFrame.NoClient d = unsound b number Alloc _ (λ s. client d.1)
  denied NoFrame.NoRoom d =
      refuses b number Alloc _
      (λ s. of_present (plan_of b) (decode b) number Alloc h.machine h.present
      ∙ takes_nothing (plan_of b) (decode b) m 1 0 (omega arith) (λ k l. not_passed (fits (plan_of b) (decode b) 1 0 k) (λ e. d.2 s.frames.accounted.agree k (run_free (plan_of b) (decode b) 1 0 k e k (omega arith) (omega arith)))))
  denied NoFrame.Corrupt d = unsound b number Alloc _ (λ s. d.1 s.frames.accounted)

  pub run_denied : (n a : ℕ) (why : NoRun) → RunDenied (table_config t).pool.host tr o (machine_of (table_config t) number) n a why → Served (mem t z tr o w) number (AllocContiguous n a) (mem t z tr o w) (of_no_run why)
  unfolding b m base
  run_denied n a (NoRun.Unfit why) d = unsound b number (AllocContiguous n a) _ (λ s. misfit base tr o why s.frames.accounted d)
  run_denied n a NoRun.NoClient d = unsound b number (AllocContiguous n a) _ (λ s. client d.1)
  run_denied n a NoRun.Empty d = refuses b number (AllocContiguous n a) _ (λ s. of_present (plan_of b) (decode b) number (AllocContiguous n a) h.machine h.present ∙ takes_none (plan_of b) (decode b) m n a d.1)
  run_denied n a NoRun.NoRoom d =
      refuses b number (AllocContiguous n a) _
      (λ s. of_present (plan_of b) (decode b) number (AllocContiguous n a) h.machine h.present
      ∙ takes_nothing (plan_of b) (decode b) m n a d.1 (λ k l. not_passed (fits (plan_of b) (decode b) n a k) (λ e. d.2 s.frames.accounted.agree k (record { fits = run_within (plan_of b) (decode b) n a k e; aligned = run_aligned (plan_of b) (decode b) n a k e; free = run_free (plan_of b) (decode b) n a k e }))))
  run_denied n a NoRun.Corrupt d = unsound b number (AllocContiguous n a) _ (λ s. d.2 s.frames.accounted)

  -- an address between frames is none of a frame's
  between : (addr : ℕ) → Between (table_config t).pool.host addr → (addr - ((table_config t).pool.host + 4096 * 0)) % 4096 ≡ 0 → ⊥
  between addr x e = let l = x.above in x.none ((addr - (table_config t).pool.host) / 4096) (omega arith)

  pub not_freed : (addr : ℕ) (why : NotFreed) → Refused (table_config t).pool.host tr o (machine_of (table_config t) number) addr why → Served (mem t z tr o w) number (Dealloc addr) (mem t z tr o w) (of_not_freed why)
  unfolding b m base
  not_freed addr (NotFreed.Unfit why) d = unsound b number (Dealloc addr) _ (λ s. misfit base tr o why s.frames.accounted d)
  not_freed addr NotFreed.NoClient d = unsound b number (Dealloc addr) _ (λ s. client d.1)
  not_freed addr NotFreed.Below d = refuses b number (Dealloc addr) _ (λ s. of_present (plan_of b) (decode b) number (Dealloc addr) h.machine h.present ∙ gives_below (plan_of b) (decode b) m addr 1 (let l = d.1 in omega arith))
  not_freed addr NotFreed.NotAtFrame d = refuses b number (Dealloc addr) _ (λ s. of_present (plan_of b) (decode b) number (Dealloc addr) h.machine h.present ∙ gives_between (plan_of b) (decode b) m addr 1 (let l = d.1.above in omega arith) (between addr d.1))
  not_freed addr NotFreed.Outside d =
      refuses b number (Dealloc addr) _
      (λ s. of_present (plan_of b) (decode b) number (Dealloc addr) h.machine h.present
      ∙ gives_at (plan_of b) (decode b) m addr 1 d.frame d.place
      ∙ back_outside (plan_of b) (decode b) m d.frame 1 (omega arith) (let l = d.is in omega arith))
  not_freed addr NotFreed.NotTaken d =
      refuses b number (Dealloc addr) _
      (λ s. of_present (plan_of b) (decode b) number (Dealloc addr) h.machine h.present
      ∙ gives_at (plan_of b) (decode b) m addr 1 d.frame d.place
      ∙ back_free (plan_of b) (decode b) m d.frame 1 d.frame (omega arith) (let l = within d.frame d.is s in omega arith) (other_is (state tr o) m d.frame 1 d.frame (omega arith) (omega arith) (λ j x y. absurd (omega arith)) (λ e. free_not_owned m (sym d.is ∙ e))) (omega arith) d.is)
  not_freed addr NotFreed.NotYours d =
      refuses b number (Dealloc addr) _
      (λ s. of_present (plan_of b) (decode b) number (Dealloc addr) h.machine h.present
      ∙ gives_at (plan_of b) (decode b) m addr 1 d.frame d.place
      ∙ back_others (plan_of b) (decode b) m d.frame 1 d.frame (omega arith) (let l = d.is.within in omega arith) (other_is (state tr o) m d.frame 1 d.frame (omega arith) (omega arith) (λ j x y. absurd (omega arith)) d.is.other) (omega arith) d.is.taken)

  -- the first of a run that is not the machine's
  first : (k n r : ℕ) → FirstOther tr o (machine_of (table_config t) number) n k r → first_other (state tr o) (machine_of (table_config t) number) k n ≡ r
  first k n r f = other_is (state tr o) (machine_of (table_config t) number) k n r f.stops.low f.before f.stops.before (f.stops.fails f.before)

  pub run_not_freed : (addr n : ℕ) (why : RunNotFreed) → RunRefused (table_config t).pool.host tr o (machine_of (table_config t) number) addr n why → Served (mem t z tr o w) number (DeallocContiguous addr n) (mem t z tr o w) (of_run_not_freed why)
  unfolding b m base
  run_not_freed addr n (RunNotFreed.Unfit why) d = unsound b number (DeallocContiguous addr n) _ (λ s. misfit base tr o why s.frames.accounted d)
  run_not_freed addr n RunNotFreed.NoClient d = unsound b number (DeallocContiguous addr n) _ (λ s. client d.1)
  run_not_freed addr n RunNotFreed.Below d = refuses b number (DeallocContiguous addr n) _ (λ s. of_present (plan_of b) (decode b) number (DeallocContiguous addr n) h.machine h.present ∙ gives_below (plan_of b) (decode b) m addr n (let l = d.1 in omega arith))
  run_not_freed addr n RunNotFreed.NotAtFrame d = refuses b number (DeallocContiguous addr n) _ (λ s. of_present (plan_of b) (decode b) number (DeallocContiguous addr n) h.machine h.present ∙ gives_between (plan_of b) (decode b) m addr n (let l = d.1.above in omega arith) (between addr d.1))
  run_not_freed addr n RunNotFreed.Empty d =
      refuses b number (DeallocContiguous addr n) _
      (λ s. of_present (plan_of b) (decode b) number (DeallocContiguous addr n) h.machine h.present
      ∙ gives_at (plan_of b) (decode b) m addr n d.frame d.place
      ∙ back_none (plan_of b) (decode b) m d.frame n d.is)
  run_not_freed addr n RunNotFreed.Outside d =
      refuses b number (DeallocContiguous addr n) _
      (λ s. of_present (plan_of b) (decode b) number (DeallocContiguous addr n) h.machine h.present
      ∙ gives_at (plan_of b) (decode b) m addr n d.frame d.place
      ∙ back_outside (plan_of b) (decode b) m d.frame n d.is.0 d.is.1)
  run_not_freed addr n (RunNotFreed.NotTaken r) d =
      refuses b number (DeallocContiguous addr n) _
      (λ s. of_present (plan_of b) (decode b) number (DeallocContiguous addr n) h.machine h.present
      ∙ gives_at (plan_of b) (decode b) m addr n d.frame d.place
      ∙ back_free (plan_of b) (decode b) m d.frame n r d.is.0.some d.is.0.fits (first d.frame n r d.is.0) d.is.0.before d.is.1)
  run_not_freed addr n (RunNotFreed.NotYours r) d =
      refuses b number (DeallocContiguous addr n) _
      (λ s. of_present (plan_of b) (decode b) number (DeallocContiguous addr n) h.machine h.present
      ∙ gives_at (plan_of b) (decode b) m addr n d.frame d.place
      ∙ back_others (plan_of b) (decode b) m d.frame n r d.is.0.some d.is.0.fits (first d.frame n r d.is.0) d.is.0.before d.is.1.taken)
