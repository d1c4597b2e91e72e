-- Requests for frames that are met: what the memories mean afterwards is the step's. Assumes nothing.
use mathlib.Core.Path.{◌≡◌, refl, sym, ◌∙◌}
use mathlib.Core.Bool.{false}
use mathlib.Core.List.{List}
use Prim.Native.Nat.{ℕ, ◌+◌, ◌*◌, ◌/◌, ◌%◌, ◌<◌, ◌≤◌}
use lib.ListN.{length, get_or}
use native.Mathlib.Decide.{dec_lt}
use native.Mathlib.Omega.{arith}
use Rattle.base.specs.Ranges.{Outside}
use Rattle.base.specs.Choices.{at_run}
use Rattle.base.proofs.Choices.{run_cases, is_at_run, not_passed}
use Rattle.config_view.specs.Table.{table_config}
use Rattle.bitmap_tree.specs.Tree.{cap}
use Rattle.owners.specs.States.{State.Free, State.Owned, state}
use Rattle.owners.specs.Writes.{Became}
use Rattle.contents.specs.Contents.{Wiped, Clean}
use Rattle.claims.specs.Offers.{FreeRun}
use Rattle.machine.specs.declared.Request.{Request}
use Rattle.machine.specs.declared.Request.TheVariants.{Alloc, AllocContiguous, Dealloc, DeallocContiguous}
use Rattle.machine.specs.declared.Answer.{Answer}
use Rattle.machine.specs.State.{State, out, address_of, taken, freed}
use Rattle.machine.specs.Step.{machine_of, fits, takes, gives, present}
use Rattle.machine.proofs.Frames.{run_free, run_aligned, run_within, run_fits}
use Rattle.machine.proofs.Cases.{of_present, takes_run, gives_at, back_done}
use Rattle.zones.specs.Layout.{slots_in}
use Rattle.hv_state.specs.Memory.{plan_of, decode, Sound}
use Rattle.hv_state.specs.Serving.{Served, mem}
use Rattle.hv_state.proofs.Serving.{succeeds}
use Rattle.hv_asker.specs.Asking.{Here}
use Rattle.frames.specs.Frames as asked

-- as many words have as many frames
plan_kept : (t z tr o w tr' o' w' : List ℕ) → length tr' ≡ length tr → length w' ≡ length w → plan_of (mem t z tr' o' w') ≡ plan_of (mem t z tr o w)
plan_kept t z tr o w tr' o' w' e f = λ i. record { config = table_config t; slots = slots_in z (table_config t).machines; frames = 15 * e i + 1; usable = f i / 512 }

module _ (t z tr o w : List ℕ) (number : ℕ) (h : Here t z number) where
  -- the n frames from k on, which are free and the lowest such run, become the machine's
  module _ (q : Request) (n a k addr : ℕ) (tr' o' : List ℕ) (is : (s : State) → present (plan_of (mem t z tr o w)) s (machine_of (table_config t) number) q ≡ takes (plan_of (mem t z tr o w)) s (machine_of (table_config t) number) n a)
      (some : 0 < n) (place : addr ≡ (table_config t).pool.host + 4096 * k) (run : FreeRun tr o n a k)
      (lowest : Sound (mem t z tr o w) → (x : ℕ) → FreeRun tr o n a x → k ≤ x)
      (change : Became tr o k (k + n) (Owned (machine_of (table_config t) number)) tr' o')
      (clean : Sound (mem t z tr o w) → Clean (table_config t).pool.host tr' o' w) where
    lower : Sound (mem t z tr o w) → (j : ℕ) → j < k → fits (plan_of (mem t z tr o w)) (decode (mem t z tr o w)) n a j ≡ false
    lower s j l =
        not_passed (fits (plan_of (mem t z tr o w)) (decode (mem t z tr o w)) n a j)
        (λ e. let x = lowest s j (record { fits = run_within (plan_of (mem t z tr o w)) (decode (mem t z tr o w)) n a j e; aligned = run_aligned (plan_of (mem t z tr o w)) (decode (mem t z tr o w)) n a j e; free = run_free (plan_of (mem t z tr o w)) (decode (mem t z tr o w)) n a j e }) in omega arith)

    means : out (Answer.Address (address_of (plan_of (mem t z tr o w)) k)) (taken (decode (mem t z tr o w)) (machine_of (table_config t) number) k n) ≡ out (Answer.Address addr) (decode (mem t z tr' o' w))
    means = sym (λ i. out (Answer.Address (place i)) (record { present = (decode (mem t z tr o w)).present; set = (decode (mem t z tr o w)).set; frame = λ j. is_at_run (state tr o) (state tr' o') k n (Owned (machine_of (table_config t) number)) change.inside change.others j i; word = λ j. get_or w j 0 }))

    pub taken_served : Served (mem t z tr o w) number q (mem t z tr' o' w) (Answer.Address addr)
    taken_served =
        succeeds (mem t z tr o w) number q (mem t z tr' o' w) (Answer.Address addr) (λ r. r) refl (λ s. plan_kept t z tr o w tr' o' w change.words refl) (λ s. s.zones) clean
        (λ s. of_present (plan_of (mem t z tr o w)) (decode (mem t z tr o w)) number q h.machine h.present
        ∙ is (decode (mem t z tr o w))
        ∙ takes_run (plan_of (mem t z tr o w)) (decode (mem t z tr o w)) (machine_of (table_config t) number) n a k some (let l = run.fits in omega arith) (run_fits (plan_of (mem t z tr o w)) (decode (mem t z tr o w)) n a k run.aligned run.fits run.free) (lower s)
        ∙ means)

  -- the n frames from k on, which are the machine's, become free and are cleared
  module _ (q : Request) (n k addr : ℕ) (tr' o' w' : List ℕ) (is : (s : State) → present (plan_of (mem t z tr o w)) s (machine_of (table_config t) number) q ≡ gives (plan_of (mem t z tr o w)) s (machine_of (table_config t) number) addr n)
      (some : 0 < n) (place : addr ≡ (table_config t).pool.host + 4096 * k) (within : k + n ≤ cap tr) (mine : (j : ℕ) → k ≤ j → j < k + n → state tr o j ≡ Owned (machine_of (table_config t) number))
      (change : Became tr o k (k + n) Free tr' o') (wiped : Wiped w k (k + n) w')
      (clean : Sound (mem t z tr o w) → Clean (table_config t).pool.host tr' o' w') where
    word : (j : ℕ) → get_or w' j 0 ≡ at_run (λ i. get_or w j 0) k n 0 (j / 512)
    word j = run_cases (λ i v. i ≡ j / 512 → get_or w' j 0 ≡ v) (λ i. get_or w j 0) k n 0 (λ i a b e. zero i a b e) (λ i d e. kept i d e) (j / 512) refl
      where
        zero : (i : ℕ) → k ≤ i → i < k + n → i ≡ j / 512 → get_or w' j 0 ≡ 0
        zero i a b e = let q : 512 * i + j % 512 ≡ j = omega arith in rw q at (wiped.inside i a b (j % 512) (omega arith))

        kept : (i : ℕ) → Outside k (k + n) i → i ≡ j / 512 → get_or w' j 0 ≡ get_or w j 0
        kept i d e = let q : 512 * i + j % 512 ≡ j = omega arith in rw q at (wiped.outside i d (j % 512) (omega arith))

    cleared : out Answer.Done (freed (decode (mem t z tr o w)) k n) ≡ out Answer.Done (decode (mem t z tr' o' w'))
    cleared = sym (λ i. out Answer.Done (record { present = (decode (mem t z tr o w)).present; set = (decode (mem t z tr o w)).set; frame = λ j. is_at_run (state tr o) (state tr' o') k n Free change.inside change.others j i; word = λ j. word j i }))

    pub freed_served : Served (mem t z tr o w) number q (mem t z tr' o' w') Answer.Done
    freed_served =
        succeeds (mem t z tr o w) number q (mem t z tr' o' w') Answer.Done (λ r. r) refl (λ s. plan_kept t z tr o w tr' o' w' change.words wiped.long) (λ s. s.zones) clean
        (λ s. of_present (plan_of (mem t z tr o w)) (decode (mem t z tr o w)) number q h.machine h.present
        ∙ is (decode (mem t z tr o w))
        ∙ gives_at (plan_of (mem t z tr o w)) (decode (mem t z tr o w)) (machine_of (table_config t) number) addr n k place
        ∙ back_done (plan_of (mem t z tr o w)) (decode (mem t z tr o w)) (machine_of (table_config t) number) k n some within mine
        ∙ cleared)

  -- ---- the four requests

  pub alloc_served : (addr : ℕ) (tr' o' : List ℕ) → asked.Gave (table_config t).pool.host tr o w (machine_of (table_config t) number) addr tr' o' → Served (mem t z tr o w) number Alloc (mem t z tr' o' w) (Answer.Address addr)
  alloc_served addr tr' o' g =
      let k = g.gave.frame in
      taken_served Alloc 1 0 k addr tr' o' (λ s. refl) (omega arith) g.gave.place (record { fits = (let l = g.gave.offered.within in omega arith); aligned = omega arith; free = λ j a b. (let e : j ≡ k = omega arith in rw e g.gave.offered.free) })
      (λ s x r. low s x (r.free x (omega arith) (omega arith)) (dec_lt x k)) g.gave.change (λ s. g.clean s.frames)
    where
      low : Sound (mem t z tr o w) → (x : ℕ) → state tr o x ≡ Free → Dec (x < g.gave.frame) → g.gave.frame ≤ x
      low s x f (yes l) = absurd (g.gave.offered.lowest s.frames.accounted.agree x l f)
      low s x f (no l) = omega (arith, l)

  pub run_served : (n a addr : ℕ) (tr' o' : List ℕ) → asked.GaveRun (table_config t).pool.host tr o w (machine_of (table_config t) number) n a addr tr' o' → Served (mem t z tr o w) number (AllocContiguous n a) (mem t z tr' o' w) (Answer.Address addr)
  run_served n a addr tr' o' g = taken_served (AllocContiguous n a) n a g.gave.first addr tr' o' (λ s. refl) g.gave.offered.some g.gave.place g.gave.offered.run (λ s. g.gave.offered.lowest s.frames.accounted.agree) g.gave.change (λ s. g.clean s.frames)

  pub dealloc_served : (addr : ℕ) (tr' o' w' : List ℕ) → asked.TookBack (table_config t).pool.host tr o w (machine_of (table_config t) number) addr tr' o' w' → Served (mem t z tr o w) number (Dealloc addr) (mem t z tr' o' w') Answer.Done
  dealloc_served addr tr' o' w' g =
      let k = g.took.frame in
      freed_served (Dealloc addr) 1 k addr tr' o' w' (λ s. refl) (omega arith) g.took.mine.place (let l = g.took.mine.within in omega arith) (λ j a b. let e : j ≡ k = omega arith in rw e g.took.mine.owned) g.took.change g.wiped (λ s. g.clean s.frames)

  pub dealloc_run_served : (addr n : ℕ) (tr' o' w' : List ℕ) → asked.TookRunBack (table_config t).pool.host tr o w (machine_of (table_config t) number) addr n tr' o' w' → Served (mem t z tr o w) number (DeallocContiguous addr n) (mem t z tr' o' w') Answer.Done
  dealloc_run_served addr n tr' o' w' g = freed_served (DeallocContiguous addr n) n g.took.first addr tr' o' w' (λ s. refl) g.took.mine.some g.took.mine.place g.took.mine.within g.took.mine.owned g.took.change g.wiped (λ s. g.clean s.frames)
