-- A machine comes or goes: what is answered is the step's. Assumes nothing.
use mathlib.Core.Path.{◌≡◌, refl, sym, ◌∙◌, ap, subst}
use mathlib.Core.Bool.{Bool, true, false}
use mathlib.Core.List.{List}
use Rattle.std.specs.Prelude.{Result, Ok, Err}
use Prim.Native.Nat.{ℕ, ◌<◌}
use lib.Dec.{eqb}
use lib.ListN.{get_or, set}
use lib.Seq.{get_or-set_same}
use native.Mathlib.Omega.{arith}
use Rattle.std.proofs.Common.{Err}
use Rattle.base.specs.Choices.{both}
use Rattle.base.proofs.Ranges.{set_only}
use Rattle.config_view.specs.Table.{table_config}
use Rattle.set_model.specs.Sets.{none}
use Rattle.set_slots.specs.Slots.{regions_in}
use Rattle.owners.specs.States.{State.Owned, Matched}
use Rattle.machine.specs.declared.Which.TheVariants.{Processors, Devices}
use Rattle.machine.specs.declared.Request.{Request}
use Rattle.machine.specs.declared.Request.TheVariants.{AddZone, RemoveZone}
use Rattle.machine.specs.declared.Reason.{Reason}
use Rattle.machine.specs.declared.Refusal.{Refusal}
use Rattle.machine.specs.declared.Answer.{Answer}
use Rattle.machine.specs.Refusals.{refused}
use Rattle.machine.specs.State.{out, with_present}
use Rattle.machine.specs.Step.{machine_of, is_empty, step}
use Rattle.machine.proofs.Cases.{of_present, of_absent, of_nobody, not_empty_lem, goes_away}
use Rattle.zones.specs.declared.Zone.{Zone}
use Rattle.zones.specs.declared.NotLocated.{NotLocated}
use Rattle.zones.specs.Layout.{slots_in, place_of, IsZone, LocateSays, not_located}
use Rattle.zones.proofs.Laws.{not_corrupt}
use Rattle.hv_state.specs.Memory.{plan_of, decode, set_place, set_in, Sound}
use Rattle.hv_state.specs.Serving.{Served, mem}
use Rattle.hv_state.proofs.Serving.{refuses, unsound, succeeds}
use Rattle.hv_state.proofs.Zones.{slots_kept, set_is, flag_present, flag_sets, flag_ok}
use Rattle.hv_asker.specs.Asking.{Here}
use Rattle.hv_asker.proofs.Laws.{flag_here, flag_away, disordered}
use Rattle.hv_empty.specs.declared.Corrupt.{Corrupt}
use Rattle.hv_empty.specs.Empty.{RegionsSay, FramesSay}
use Rattle.hv_empty.proofs.Laws.{has_region, has_frame, has_nothing}

-- nobody has the number
pub nobody : (t z tr o w : List ℕ) (number : ℕ) → machine_of (table_config t) number ≡ (table_config t).machines → Served (mem t z tr o w) number AddZone (mem t z tr o w) (Answer.No Reason.NoMachine)
nobody t z tr o w number e = refuses (mem t z tr o w) number AddZone (Answer.No Reason.NoMachine) (λ s. of_nobody (plan_of (mem t z tr o w)) (decode (mem t z tr o w)) number AddZone e)

-- a machine that is not found is not added
pub not_found : (t z tr o w : List ℕ) (number : ℕ) (why : NotLocated) (r : Refusal) (a : Answer) → a ≡ refused r → r ≡ not_located why → LocateSays t z number (Err why) → Served (mem t z tr o w) number AddZone (mem t z tr o w) a
not_found t z tr o w number why r a e f h = subst (λ (x : Answer). Served (mem t z tr o w) number AddZone (mem t z tr o w) x) (sym (e ∙ ap refused f)) (go why h)
  where
    go : (why : NotLocated) → LocateSays t z number (Err why) → Served (mem t z tr o w) number AddZone (mem t z tr o w) (refused (not_located why))
    go NotLocated.NoMachine h = nobody t z tr o w number h.1
    go NotLocated.Corrupt h = unsound (mem t z tr o w) number AddZone Answer.Corrupt (disordered (mem t z tr o w) (not_corrupt t z number h))

module _ (t z tr o w : List ℕ) (number : ℕ) (zone : Zone) (is : IsZone z (table_config t).machines (machine_of (table_config t) number) zone) where
  -- the first word of the machine becomes v, and that is the step's
  flag_served : (q : Request) (v : ℕ) → v < 2
      → (Sound (mem t z tr o w) → step (plan_of (mem t z tr o w)) (decode (mem t z tr o w)) number q ≡ out Answer.Done (with_present (decode (mem t z tr o w)) (machine_of (table_config t) number) (eqb v 1)))
      → Served (mem t z tr o w) number q (mem t (set z (place_of (slots_in z (table_config t).machines) (machine_of (table_config t) number)) v) tr o w) Answer.Done
  flag_served q v l s =
      let n = (table_config t).machines in
      let m = machine_of (table_config t) number in
      let place = place_of (slots_in z n) m in
      let only = set_only z place v in
      let here = get_or-set_same z place v 0 (let i = is.inside in omega arith) in
      succeeds (mem t z tr o w) number q (mem t (set z place v) tr o w) Answer.Done (λ r. r) refl
      (λ h i. record { config = table_config t; slots = slots_kept z (set z place v) n only.long i; frames = (plan_of (mem t z tr o w)).frames; usable = (plan_of (mem t z tr o w)).usable })
      (λ h. flag_ok z (set z place v) n m v is.machine only here l h.zones)
      (λ h. h.frames)
      (λ h. s h ∙ sym (λ i. out Answer.Done (record { present = flag_present z (set z place v) n m v is.machine only here i; set = flag_sets z (set z place v) n m v is.machine only here i; frame = (decode (mem t z tr o w)).frame; word = (decode (mem t z tr o w)).word })))

  -- the same at the zone's place
  at_place : (P : ℕ → Type 0) → P (place_of (slots_in z (table_config t).machines) (machine_of (table_config t) number)) → P zone.place
  at_place P p = subst P (sym is.place) p

  -- ---- it comes

  pub was_there : get_or z (place_of (slots_in z (table_config t).machines) (machine_of (table_config t) number)) 0 ≡ 1 → Served (mem t z tr o w) number AddZone (mem t z tr o w) (Answer.No Reason.Present)
  was_there e = refuses (mem t z tr o w) number AddZone (Answer.No Reason.Present) (λ s. of_present (plan_of (mem t z tr o w)) (decode (mem t z tr o w)) number AddZone is.machine (flag_here z (table_config t).machines (machine_of (table_config t) number) is.machine e))

  pub comes : get_or z (place_of (slots_in z (table_config t).machines) (machine_of (table_config t) number)) 0 ≡ 0 → Served (mem t z tr o w) number AddZone (mem t (set z zone.place 1) tr o w) Answer.Done
  comes e = at_place (λ x. Served (mem t z tr o w) number AddZone (mem t (set z x 1) tr o w) Answer.Done) (flag_served AddZone 1 (omega arith) (λ s. of_absent (plan_of (mem t z tr o w)) (decode (mem t z tr o w)) number AddZone is.machine (flag_away z (table_config t).machines (machine_of (table_config t) number) is.machine e)))

  -- ---- it goes

  module _ (h : Here t z number) where
    -- what is told of the zone's sets is told of what the memories mean
    sets_told : (r : Result Bool Corrupt) → RegionsSay z zone.place zone.slots r → RegionsSay z (place_of (slots_in z (table_config t).machines) (machine_of (table_config t) number)) (slots_in z (table_config t).machines) r
    sets_told r p = subst (λ (x : ℕ). RegionsSay z x (slots_in z (table_config t).machines) r) is.place (subst (λ (x : ℕ). RegionsSay z zone.place x r) is.slots p)

    bare : (v : Bool) → both (none (regions_in z (set_place z (table_config t).machines (machine_of (table_config t) number) Processors) (slots_in z (table_config t).machines))) (none (regions_in z (set_place z (table_config t).machines (machine_of (table_config t) number) Devices) (slots_in z (table_config t).machines))) ≡ v
        → both (none (set_in z (table_config t).machines (machine_of (table_config t) number) Processors)) (none (set_in z (table_config t).machines (machine_of (table_config t) number) Devices)) ≡ v
    bare v e = rw (set_is z (table_config t).machines (machine_of (table_config t) number) Processors is.machine, set_is z (table_config t).machines (machine_of (table_config t) number) Devices is.machine) e

    pub sets_corrupt : (why : Corrupt) → RegionsSay z zone.place zone.slots (Err why) → Served (mem t z tr o w) number RemoveZone (mem t z tr o w) Answer.Corrupt
    sets_corrupt why d = unsound (mem t z tr o w) number RemoveZone Answer.Corrupt (λ s. sets_told (Err why) d (λ v. s.zones.sets (machine_of (table_config t) number) is.machine v))

    pub frames_corrupt : (Matched tr o → ⊥) → Served (mem t z tr o w) number RemoveZone (mem t z tr o w) Answer.Corrupt
    frames_corrupt d = unsound (mem t z tr o w) number RemoveZone Answer.Corrupt (λ s. d s.frames.accounted.matched)

    occupied : (Sound (mem t z tr o w) → is_empty (plan_of (mem t z tr o w)) (decode (mem t z tr o w)) (machine_of (table_config t) number) ≡ false) → Served (mem t z tr o w) number RemoveZone (mem t z tr o w) (Answer.No Reason.NotEmpty)
    occupied e = refuses (mem t z tr o w) number RemoveZone (Answer.No Reason.NotEmpty) (λ s. of_present (plan_of (mem t z tr o w)) (decode (mem t z tr o w)) number RemoveZone h.machine h.present ∙ not_empty_lem (plan_of (mem t z tr o w)) (decode (mem t z tr o w)) (machine_of (table_config t) number) (e s))

    pub has_regions : RegionsSay z zone.place zone.slots (Ok false) → Served (mem t z tr o w) number RemoveZone (mem t z tr o w) (Answer.No Reason.NotEmpty)
    has_regions d = occupied (λ s. has_region (plan_of (mem t z tr o w)) (decode (mem t z tr o w)) (machine_of (table_config t) number) (bare false (sets_told (Ok false) d)))

    pub has_frames : (c : ℕ) → c ≡ machine_of (table_config t) number → FramesSay tr o c (Ok false) → Served (mem t z tr o w) number RemoveZone (mem t z tr o w) (Answer.No Reason.NotEmpty)
    has_frames c e d = occupied (λ s. has_frame (plan_of (mem t z tr o w)) (decode (mem t z tr o w)) (machine_of (table_config t) number) d.0 d.1.within (d.1.is ∙ ap Owned e))

    pub goes : (c : ℕ) → c ≡ machine_of (table_config t) number → RegionsSay z zone.place zone.slots (Ok true) → FramesSay tr o c (Ok true) → Served (mem t z tr o w) number RemoveZone (mem t (set z zone.place 0) tr o w) Answer.Done
    goes c e d f =
        at_place (λ x. Served (mem t z tr o w) number RemoveZone (mem t (set z x 0) tr o w) Answer.Done)
        (flag_served RemoveZone 0 (omega arith)
        (λ s. of_present (plan_of (mem t z tr o w)) (decode (mem t z tr o w)) number RemoveZone h.machine h.present
        ∙ goes_away (plan_of (mem t z tr o w)) (decode (mem t z tr o w)) (machine_of (table_config t) number) (has_nothing (plan_of (mem t z tr o w)) (decode (mem t z tr o w)) (machine_of (table_config t) number) (bare true (sets_told (Ok true) d)) (λ k q. f k (q ∙ ap Owned (sym e))))))
