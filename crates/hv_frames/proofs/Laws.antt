-- What the allocator answers the client that asks serves the machine's request. Assumes nothing.
use mathlib.Core.Path.{◌≡◌, refl, sym, ◌∙◌, subst}
use mathlib.Core.List.{List}
use Prim.Native.Nat.{ℕ, ◌+◌, ◌-◌}
use native.Mathlib.Omega.{arith}
use Rattle.config_view.specs.Table.{table_config}
use Rattle.owners.specs.Writes.{Kept}
use Rattle.contents.specs.Contents.{Backed, KeptAll}
use Rattle.claims.specs.declared.NoFrame.{NoFrame}
use Rattle.claims.specs.declared.NoRun.{NoRun}
use Rattle.claims.specs.declared.NotFreed.{NotFreed}
use Rattle.claims.specs.declared.RunNotFreed.{RunNotFreed}
use Rattle.claims.specs.Offers.{Denied, RunDenied}
use Rattle.claims.specs.Returns.{Refused, RunRefused}
use Rattle.frames.specs.Frames.{Gave, GaveRun, TookBack, Missing, TookRunBack, RunMissing}
use Rattle.machine.specs.declared.Request.{Request}
use Rattle.machine.specs.declared.Request.TheVariants.{Alloc, AllocContiguous, Dealloc, DeallocContiguous}
use Rattle.machine.specs.declared.Answer.{Answer}
use Rattle.machine.specs.Step.{machine_of}
use Rattle.owners.proofs.States.{client_not_reserved}
use Rattle.hv_state.specs.Memory.{Mem}
use Rattle.hv_state.specs.Serving.{Served, mem}
use Rattle.hv_state.proofs.Serving.{unsound}
use Rattle.hv_asker.specs.declared.Client.{Client}
use Rattle.hv_asker.specs.Asking.{IsClient}
use Rattle.hv_answers.specs.Answers.{of_no_frame, of_no_run, of_not_freed, of_run_not_freed}
use Rattle.hv_answers.proofs.Refusals.{denied, run_denied, not_freed, run_not_freed}
use Rattle.hv_answers.proofs.Frames.{alloc_served, run_served, dealloc_served, dealloc_run_served}

module _ (t z tr o w : List ℕ) (number : ℕ) (c : Client) (is : IsClient t z number c) where
  -- what is said of the client is said of the machine
  as_machine : (P : ℕ → ℕ → Type 0) → P c.base c.client → P (table_config t).pool.host (machine_of (table_config t) number)
  as_machine P p = subst (λ (x : ℕ). P x (machine_of (table_config t) number)) is.base (subst (λ (x : ℕ). P c.base x) is.client p)

  -- a request that is refused and leaves the memories
  left : (q : Request) (a a' : Answer) (tr' o' : List ℕ) → Kept tr o tr' o' → a' ≡ a → Served (mem t z tr o w) number q (mem t z tr o w) a → Served (mem t z tr o w) number q (mem t z tr' o' w) a'
  left q a a' tr' o' k e s = subst (λ (x : Answer). Served (mem t z tr o w) number q (mem t z tr' o' w) x) (sym e) (subst (λ (b : Mem). Served (mem t z tr o w) number q b a) (λ i. mem t z (sym k.words i) (sym k.bytes i) w) s)

  left_all : (q : Request) (a a' : Answer) (tr' o' w' : List ℕ) → KeptAll tr o w tr' o' w' → a' ≡ a → Served (mem t z tr o w) number q (mem t z tr o w) a → Served (mem t z tr o w) number q (mem t z tr' o' w') a'
  left_all q a a' tr' o' w' k e s = subst (λ (x : Answer). Served (mem t z tr o w) number q (mem t z tr' o' w') x) (sym e) (subst (λ (b : Mem). Served (mem t z tr o w) number q b a) (λ i. mem t z (sym k.tree i) (sym k.bytes i) (sym k.words i)) s)

  -- sound memories have contents as many as they may
  pub unbacked : (q : Request) (tr' o' : List ℕ) → Kept tr o tr' o' × (Backed o w → ⊥) → Served (mem t z tr o w) number q (mem t z tr' o' w) Answer.Corrupt
  unbacked q tr' o' g = left q _ _ tr' o' g.0 refl (unsound (mem t z tr o w) number q Answer.Corrupt (λ s. g.1 s.frames.backed))

  pub unbacked_all : (q : Request) (tr' o' w' : List ℕ) → KeptAll tr o w tr' o' w' × (Backed o w → ⊥) → Served (mem t z tr o w) number q (mem t z tr' o' w') Answer.Corrupt
  unbacked_all q tr' o' w' g = left_all q _ _ tr' o' w' g.0 refl (unsound (mem t z tr o w) number q Answer.Corrupt (λ s. g.1 s.frames.backed))

  pub alloc_at : (addr : ℕ) (tr' o' : List ℕ) → Gave c.base tr o w c.client addr tr' o' → Served (mem t z tr o w) number Alloc (mem t z tr' o' w) (Answer.Address addr)
  alloc_at addr tr' o' g = alloc_served t z tr o w number is.here addr tr' o' (as_machine (λ base m. Gave base tr o w m addr tr' o') g)

  pub alloc_no : (why : NoFrame) (tr' o' : List ℕ) (a : Answer) → Kept tr o tr' o' × Backed o w × Denied c.base tr o c.client why → a ≡ of_no_frame why → Served (mem t z tr o w) number Alloc (mem t z tr' o' w) a
  alloc_no why tr' o' a g e = left Alloc _ _ tr' o' g.0 e (denied t z tr o w number is.here why (as_machine (λ base m. Denied base tr o m why) g.2))

  pub run_at : (n a addr : ℕ) (tr' o' : List ℕ) → GaveRun c.base tr o w c.client n a addr tr' o' → Served (mem t z tr o w) number (AllocContiguous n a) (mem t z tr' o' w) (Answer.Address addr)
  run_at n a addr tr' o' g = run_served t z tr o w number is.here n a addr tr' o' (as_machine (λ base m. GaveRun base tr o w m n a addr tr' o') g)

  pub run_no : (n a : ℕ) (why : NoRun) (tr' o' : List ℕ) (x : Answer) → Kept tr o tr' o' × Backed o w × RunDenied c.base tr o c.client n a why → x ≡ of_no_run why → Served (mem t z tr o w) number (AllocContiguous n a) (mem t z tr' o' w) x
  run_no n a why tr' o' x g e = left (AllocContiguous n a) _ _ tr' o' g.0 e (run_denied t z tr o w number is.here n a why (as_machine (λ base m. RunDenied base tr o m n a why) g.2))

  pub dealloc_done : (addr : ℕ) (tr' o' w' : List ℕ) → TookBack c.base tr o w c.client addr tr' o' w' → Served (mem t z tr o w) number (Dealloc addr) (mem t z tr' o' w') Answer.Done
  dealloc_done addr tr' o' w' g = dealloc_served t z tr o w number is.here addr tr' o' w' (as_machine (λ base m. TookBack base tr o w m addr tr' o' w') g)

  -- every frame behind those with contents is reserved
  pub dealloc_missing : (addr : ℕ) (tr' o' w' : List ℕ) → KeptAll tr o w tr' o' w' × Missing c.base tr o w c.client addr → Served (mem t z tr o w) number (Dealloc addr) (mem t z tr' o' w') Answer.Corrupt
  dealloc_missing addr tr' o' w' g =
      left_all (Dealloc addr) _ _ tr' o' w' g.0 refl
      (unsound (mem t z tr o w) number (Dealloc addr) Answer.Corrupt (λ s. client_not_reserved c.client (sym g.1.mine.owned ∙ s.frames.beyond g.1.frame g.1.past)))

  pub dealloc_no : (addr : ℕ) (why : NotFreed) (tr' o' w' : List ℕ) (a : Answer) → KeptAll tr o w tr' o' w' × Backed o w × Refused c.base tr o c.client addr why → a ≡ of_not_freed why → Served (mem t z tr o w) number (Dealloc addr) (mem t z tr' o' w') a
  dealloc_no addr why tr' o' w' a g e = left_all (Dealloc addr) _ _ tr' o' w' g.0 e (not_freed t z tr o w number is.here addr why (as_machine (λ base m. Refused base tr o m addr why) g.2))

  pub dealloc_run_done : (addr n : ℕ) (tr' o' w' : List ℕ) → TookRunBack c.base tr o w c.client addr n tr' o' w' → Served (mem t z tr o w) number (DeallocContiguous addr n) (mem t z tr' o' w') Answer.Done
  dealloc_run_done addr n tr' o' w' g = dealloc_run_served t z tr o w number is.here addr n tr' o' w' (as_machine (λ base m. TookRunBack base tr o w m addr n tr' o' w') g)

  pub dealloc_run_missing : (addr n : ℕ) (tr' o' w' : List ℕ) → KeptAll tr o w tr' o' w' × RunMissing c.base tr o w c.client addr n → Served (mem t z tr o w) number (DeallocContiguous addr n) (mem t z tr' o' w') Answer.Corrupt
  dealloc_run_missing addr n tr' o' w' g =
      left_all (DeallocContiguous addr n) _ _ tr' o' w' g.0 refl
      (unsound (mem t z tr o w) number (DeallocContiguous addr n) Answer.Corrupt (λ s. let l = g.1.past in let p = g.1.mine.some in client_not_reserved c.client (sym (g.1.mine.owned (g.1.first + n - 1) (omega arith) (omega arith)) ∙ s.frames.beyond (g.1.first + n - 1) (omega arith))))

  pub dealloc_run_no : (addr n : ℕ) (why : RunNotFreed) (tr' o' w' : List ℕ) (a : Answer) → KeptAll tr o w tr' o' w' × Backed o w × RunRefused c.base tr o c.client addr n why → a ≡ of_run_not_freed why → Served (mem t z tr o w) number (DeallocContiguous addr n) (mem t z tr' o' w') a
  dealloc_run_no addr n why tr' o' w' a g e = left_all (DeallocContiguous addr n) _ _ tr' o' w' g.0 e (run_not_freed t z tr o w number is.here addr n why (as_machine (λ base m. RunRefused base tr o m addr n why) g.2))
