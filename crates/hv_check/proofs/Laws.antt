-- What the proofs of the functions cite. Assumes nothing.
use mathlib.Core.Path.{◌≡◌, refl, sym, ◌∙◌, ap, subst}
use mathlib.Core.Bool.{Bool}
use mathlib.Core.List.{List}
use Rattle.std.specs.Prelude.{⊤, Result, Ok, Err, is_ok}
use Prim.Native.Nat.{ℕ, ◌+◌, ◌*◌, ◌≤◌, ◌<◌}
use lib.Dec.{eqb}
use lib.ListN.{length, get_or}
use Rattle.std.proofs.Common.{Err}
use native.Mathlib.Decide.{dec_lt, ℕ_discrete}
use native.Mathlib.Omega.{arith}
use borrow.Author.Tests.{eq-eqb, eqb-true}
use Rattle.base.specs.Says.{Says}
use Rattle.base.specs.Search.{Stops}
use Rattle.base.proofs.Choices.{never}
use Rattle.base.proofs.Search.{none_first}
use Rattle.address.proofs.Laws.{faulty}
use Rattle.address.specs.declared.Region.{Region}
use Rattle.bitmap_tree.specs.Tree.{free, cap, Agree}
use Rattle.bitmap_looks.specs.Looks.{LowestLie}
use Rattle.owners.specs.States as frames
use Rattle.owners.specs.States.{state}
use Rattle.owners.proofs.States.{free_state, owned_state, reserved_state}
use Rattle.claims.specs.declared.Unfit.{Unfit}
use Rattle.claims.specs.Fits.{Misfit}
use Rattle.contents.specs.Contents.{frames_in, Clean}
use Rattle.frames_pool.specs.declared.Unclean.{Unclean}
use Rattle.frames_pool.specs.Pool as pool
use Rattle.config_model.specs.Config.{Config, ConfigOk}
use Rattle.config_model.specs.Rules.{Rules}
use Rattle.config_model.proofs.Laws.{ok_rules}
use Rattle.config_rules.specs.declared.Reason.{Reason}
use Rattle.config_rules.specs.Judging.{WrongSays}
use Rattle.config_view.specs.Table.{table_config}
use Rattle.config.specs.declared.BadTable.{BadTable}
use Rattle.config.specs.Tables.{Writable, CheckTableSays}
use Rattle.machine.specs.declared.Which.{Which}
use Rattle.machine.specs.declared.Which.TheVariants.{Processors, Devices}
use Rattle.zones.specs.Layout.{stride, slots_in, place_of, set_at, Shaped}
use Rattle.zones.proofs.Laws.{place_inside}
use Rattle.hv_set_right.specs.Right.{SetRight}
use Rattle.hv_set_right.proofs.Laws.{says_yes, says_no}
use Rattle.hv_state.specs.Memory.{present_in, Sound}
use Rattle.hv_state.specs.Serving.{mem}
use Rattle.hv_state.proofs.Zones.{present_is, present_none}
use Rattle.hv_check.specs.declared.Fault.{Fault}
use Rattle.hv_check.specs.declared.NotSound.{NotSound}
use Rattle.hv_check.specs.Checking.{Laid, MachineRight, FaultSays, FirstWrong, Machines, FrameRight, Unsound, InOrder, IsClean, CheckSays}
use Rattle.hv_check.proofs.Parts.{sound_machine, sound_frame, all_sound}

-- ---- the table

-- a configuration that is refused is not right
config_wrong : (t : List ℕ) (r : Reason) → WrongSays (table_config t) r → ConfigOk (table_config t) → ⊥
config_wrong t r w k = go r w
  where
    rules : Rules (table_config t)
    rules = ok_rules (table_config t) (λ m l. omega arith) k

    go : (r : Reason) → WrongSays (table_config t) r → ⊥
    go (Reason.TooShort at) w = w
    go Reason.TooManyMachines w = w
    go (Reason.TooManyRegions m) w = w
    go (Reason.UnknownKind m i) w = w
    go (Reason.SameNumber m m') w = none_first w rules.numbers
    go (Reason.NotValid m i f) w = none_first w.1 rules.valid
    go (Reason.PoolNotValid f) w = faulty f w.1 rules.pool_valid
    go (Reason.HostShared m i m' i') w = none_first w.1.first rules.alone
    go (Reason.NotCoinciding m i m' i') w = none_first w.1.first rules.together
    go (Reason.OneMachine m i i') w = none_first w.1.first rules.together
    go (Reason.GuestShared m i i') w = none_first w.1.first rules.clear
    go (Reason.PoolShared m i) w = none_first w.1 rules.off_pool
    go (Reason.LeftOver at) w = w

-- words that are refused are no table of a configuration that is right
pub table_not : (t : List ℕ) (why : BadTable) → CheckTableSays t (Err why) → Writable t → ⊥
table_not t BadTable.NoTable f x = f x.table.long
table_not t BadTable.Stray f x = f.1 x.table
table_not t (BadTable.Refused r) f x = config_wrong t r f.1 x.ok

-- memories without such a table are not sound
pub table_unsound : (t z tr o w : List ℕ) → (Writable t → ⊥) → Unsound (mem t z tr o w) (Writable t → ⊥)
table_unsound t z tr o w f = (f, λ s. f s.table)

-- ---- machines

-- memories with another number of machines' words are not sound
pub zones_unsound : (t z tr o w : List ℕ) (n : ℕ) → Writable t → n ≡ (table_config t).machines → (Shaped z n → ⊥)
    → Unsound (mem t z tr o w) (Writable t × (Shaped z (table_config t).machines → ⊥))
zones_unsound t z tr o w n k e f = let g = subst (λ (x : ℕ). Shaped z x → ⊥) e f in ((k, g), λ s. g s.zones.flagged.shaped)

-- where the words of machine m lie, as it is computed
pub place_within : (z : List ℕ) (slots m : ℕ) → place_of slots m + stride slots ≤ length z → m * (3 + 8 * slots) + (3 + 8 * slots) ≤ length z
unfolding place_of
place_within z slots m l = l

-- they lie inside
pub laid_within : (z : List ℕ) (n slots m : ℕ) → Laid z n slots → m < n → place_of slots m + stride slots ≤ length z
laid_within z n slots m h l = subst (λ (x : ℕ). place_of x m + stride x ≤ length z) (sym h.is) (place_inside z n m h.shaped l)

-- the first of them
pub flag_of_lem : (z : List ℕ) (slots m : ℕ) → get_or z (place_of slots m) 0 ≡ get_or z (m * (3 + 8 * slots)) 0
unfolding place_of
flag_of_lem z slots m = refl

-- a set of the machine whose words lie there
abbrev At : Config → List ℕ → ℕ → ℕ → Which → Type 0
At c z slots m w = SetRight c z m w (get_or z (m * (3 + 8 * slots)) 0) (set_at (m * (3 + 8 * slots)) slots w) slots

-- the first reason why a machine's words are not right, as it is found
module _ (c : Config) (z : List ℕ) (slots m : ℕ) (room : c.count m ≤ slots) where
  pub presence_wrong : 1 < get_or z (m * (3 + 8 * slots)) 0 → FaultSays c z slots m Fault.Presence
  unfolding place_of
  presence_wrong l = (room, omega arith)

  pub processors_wrong : get_or z (m * (3 + 8 * slots)) 0 < 2 → (At c z slots m Processors → ⊥) → FaultSays c z slots m Fault.Processors
  unfolding place_of
  processors_wrong l n = (room, l, n)

  pub devices_wrong : get_or z (m * (3 + 8 * slots)) 0 < 2 → At c z slots m Processors → (At c z slots m Devices → ⊥) → FaultSays c z slots m Fault.Devices
  unfolding place_of
  devices_wrong l p n = (room, l, p, n)

-- a machine is right where its room, its first word and both of its sets are
pub machine_right : (c : Config) (z : List ℕ) (slots m : ℕ) → c.count m ≤ slots → get_or z (m * (3 + 8 * slots)) 0 < 2 → At c z slots m Processors → At c z slots m Devices → MachineRight c z slots m
unfolding place_of
machine_right c z slots m room flag p d = record { room = room; flag = flag; sets = sets }
  where
    sets : (w : Which) → At c z slots m w
    sets Processors = p
    sets Devices = d

-- a machine with a fault is not right
fault_not : (c : Config) (z : List ℕ) (slots m : ℕ) (why : Fault) → FaultSays c z slots m why → MachineRight c z slots m → ⊥
fault_not c z slots m Fault.FewSlots f h = let a = h.room in omega arith
fault_not c z slots m Fault.Presence f h = let a = h.flag in let e = f.1 in omega arith
fault_not c z slots m Fault.Processors f h = f.2 (h.sets Processors)
fault_not c z slots m Fault.Devices f h = f.3 (h.sets Devices)

-- and memories with such a machine are not sound
pub machine_unsound : (t z tr o w : List ℕ) (n slots m : ℕ) (why : Fault) → Writable t → n ≡ (table_config t).machines → Shaped z n → slots ≡ slots_in z n
    → FirstWrong (table_config t) z slots m why
    → Unsound (mem t z tr o w) (Writable t × Shaped z (table_config t).machines × FirstWrong (table_config t) z (slots_in z (table_config t).machines) m why)
machine_unsound t z tr o w n slots m why k d h e f =
    let g = subst (λ (x : ℕ). FirstWrong (table_config t) z x m why) (e ∙ ap (slots_in z) d) f in
    ((k, subst (Shaped z) d h, g), λ s. fault_not (table_config t) z (slots_in z (table_config t).machines) m why g.is (sound_machine (mem t z tr o w) m s g.machine))

-- machines that are right, by the table's number of them and by the slots that their words have
in_order : (t z : List ℕ) (n slots : ℕ) → Machines t z n slots → Machines t z (table_config t).machines (slots_in z (table_config t).machines)
in_order t z n slots h =
    subst (λ (x : ℕ). Machines t z (table_config t).machines x) (h.laid.is ∙ ap (slots_in z) h.number) (subst (λ (x : ℕ). Machines t z x slots) h.number h)

-- ---- frames

-- a frame whose bit is set is free
pub frame_free : (here : ℕ → Bool) (t o : List ℕ) (k : ℕ) → free t k ≡ 1 → FrameRight here (state t o k)
frame_free here t o k e = subst (λ (x : frames.State). FrameRight here x) (sym (free_state t o k e)) tt

-- a taken frame whose byte is no machine is not right
pub frame_no_machine : (z : List ℕ) (n : ℕ) (t o : List ℕ) (k c : ℕ) → free t k ≡ 0 → get_or o k 255 ≡ c → n ≤ c → FrameRight (present_in z n) (state t o k) → ⊥
frame_no_machine z n t o k c e q l h = go (dec_lt c 64)
  where
    go : Dec (c < 64) → ⊥
    go (yes i) = never (sym (subst (λ (x : frames.State). FrameRight (present_in z n) x) (owned_state t o k c e q i) h) ∙ present_none z n c l)
    go (no g) = subst (λ (x : frames.State). FrameRight (present_in z n) x) (reserved_state t o k e (λ i. g (omega arith))) h

-- a taken frame whose byte is a machine is right if the machine is there, and only then
module _ (z : List ℕ) (n slots : ℕ) (t o : List ℕ) (k c : ℕ) (laid : Laid z n slots) (e : free t k ≡ 0) (q : get_or o k 255 ≡ c) (l : c < n) where
  few : c < 64
  few = let h = laid.few in omega arith

  here_is : present_in z n c ≡ eqb (get_or z (c * (3 + 8 * slots)) 0) 1
  here_is = present_is z n c l ∙ ap (λ (x : ℕ). eqb (get_or z (place_of x c) 0) 1) (sym laid.is) ∙ ap (λ (x : ℕ). eqb x 1) (flag_of_lem z slots c)

  frame_present : get_or z (c * (3 + 8 * slots)) 0 ≡ 1 → FrameRight (present_in z n) (state t o k)
  frame_present f = subst (λ (x : frames.State). FrameRight (present_in z n) x) (sym (owned_state t o k c e q few)) (here_is ∙ eq-eqb (get_or z (c * (3 + 8 * slots)) 0) 1 f)

  frame_absent : (get_or z (c * (3 + 8 * slots)) 0 ≡ 1 → ⊥) → FrameRight (present_in z n) (state t o k) → ⊥
  frame_absent f h = f (eqb-true (get_or z (c * (3 + 8 * slots)) 0) 1 (sym here_is ∙ subst (λ (x : frames.State). FrameRight (present_in z n) x) (owned_state t o k c e q few) h))

  pub frame_says : Says (eqb (get_or z (c * (3 + 8 * slots)) 0) 1) (FrameRight (present_in z n) (state t o k))
  frame_says = go (ℕ_discrete (get_or z (c * (3 + 8 * slots)) 0) 1)
    where
      go : Dec (get_or z (c * (3 + 8 * slots)) 0 ≡ 1) → Says (eqb (get_or z (c * (3 + 8 * slots)) 0) 1) (FrameRight (present_in z n) (state t o k))
      go (yes f) = says_yes _ _ f (frame_present f)
      go (no f) = says_no _ _ f (frame_absent f)

-- ---- the allocator

-- a tree with a word that lies does not agree
pub lie_not : (t : List ℕ) (p : ℕ) → LowestLie t p → Agree t → ⊥
unfolding Agree
lie_not t p l a = l.lies (a l.child l.some l.within)

-- memories that do not fit are no allocator's
pub misfit_not : (base : ℕ) (t o : List ℕ) (why : Unfit) → Misfit base t o why → frames.Accounted base t o → ⊥
misfit_not base t o Unfit.NotFull n a = n a.matched.full
misfit_not base t o Unfit.Unmatched n a = n.1 a.matched.bytes
misfit_not base t o Unfit.BadBase n a = n.1 a.aligned

-- whether the memories are an allocator's and clean is whether nothing is found that is not
pub clean_says : (base : ℕ) (t o w : List ℕ) (r : Result ⊤ Unclean) → pool.CheckSays base t o w r → Says (is_ok r) (Clean base t o w)
clean_says base t o w (Ok _) s = s
clean_says base t o w (Err Unclean.Unbacked) s = λ x. s x.backed
clean_says base t o w (Err (Unclean.Lie p)) s = λ x. lie_not t p s.1 x.accounted.agree
clean_says base t o w (Err (Unclean.Wrong k)) s = λ x. s.1.stops.fails s.1.within (x.accounted.right k s.1.within)
clean_says base t o w (Err (Unclean.Beyond k)) s = λ x. s.stops.fails s.within (x.beyond k s.stops.low)
clean_says base t o w (Err (Unclean.Dirty k)) s = λ x. s.stops.fails s.within (λ f. x.zero k (free_state t o k f))
clean_says base t o w (Err (Unclean.Unfit why)) s = λ x. misfit_not base t o why s.1 x.accounted

-- ---- the memories, with the allocator's region as it is read

module _ (t z tr o w : List ℕ) (p : Region) (is : p ≡ (table_config t).pool) (n slots : ℕ) (h : Machines t z n slots) where
  ordered : InOrder (mem t z tr o w)
  ordered = in_order t z n slots h

  -- memories that are not clean are not sound
  pub frames_unsound : (Clean p.host tr o w → ⊥) → CheckSays (mem t z tr o w) (Err NotSound.Frames)
  frames_unsound f = let g = subst (λ (x : Region). Clean x.host tr o w → ⊥) is f in ((ordered, g), λ s. g s.frames)

  module _ (c : Clean p.host tr o w) where
    clean : IsClean (mem t z tr o w)
    clean = subst (λ (x : Region). Clean x.host tr o w) is c

    -- nor those with fewer frames than pages
    pub few_frames : length o < p.pages → CheckSays (mem t z tr o w) (Err NotSound.FewFrames)
    few_frames l =
        let e = c.accounted.matched.bytes in
        let g : cap tr < (table_config t).pool.pages = subst (λ (x : Region). cap tr < x.pages) is (omega arith) in
        ((ordered, clean, g), λ s. let h = s.good.plan.frames in omega arith)

    module _ (many : p.pages ≤ length o) where
      enough : (table_config t).pool.pages ≤ cap tr
      enough = let b = c.accounted.matched.bytes in subst (λ (x : Region). x.pages ≤ cap tr) is (omega arith)

      -- nor those with more frames that have contents than pages
      pub few_pages : p.pages < frames_in w → CheckSays (mem t z tr o w) (Err NotSound.FewPages)
      few_pages l =
          let g : (table_config t).pool.pages < frames_in w = subst (λ (x : Region). x.pages < frames_in w) is l in
          ((ordered, clean, enough, g), λ s. let h = s.good.plan.pages in omega arith)

      module _ (few : frames_in w ≤ p.pages) (k : ℕ) (s : Stops (λ j. FrameRight (present_in z n) (state tr o j)) 0 (frames_in w) k) where
        backed : frames_in w ≤ (table_config t).pool.pages
        backed = subst (λ (x : Region). frames_in w ≤ x.pages) is few

        -- nor those with a frame that is not right
        pub frame_unsound : k < frames_in w → CheckSays (mem t z tr o w) (Err (NotSound.Frame k))
        frame_unsound l =
            let g = subst (λ (x : ℕ). Stops (λ j. FrameRight (present_in z x) (state tr o j)) 0 (frames_in w) k) h.number s in
            ((ordered, clean, enough, backed, record { within = l; stops = g }), λ y. g.fails l (sound_frame (mem t z tr o w) k y l))

        -- where every frame is right as well, they are sound
        pub all_right : frames_in w ≤ k → Sound (mem t z tr o w)
        all_right e = all_sound t z tr o w n slots h clean enough backed (λ j l. s.before j (omega arith) (omega arith))
