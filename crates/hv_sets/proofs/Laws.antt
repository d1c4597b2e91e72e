-- Requests about a set of the machine that asks: what is answered is the step's. Assumes nothing.
use mathlib.Core.Path.{◌≡◌, refl, sym, ◌∙◌, ap, subst}
use mathlib.Core.Bool.{true, false}
use mathlib.Core.List.{List}
use Prim.Native.Nat.{ℕ, min}
use lib.ListN.{length, get_or}
use Rattle.std.specs.Prelude.{Ok, Err}
use Rattle.std.proofs.Common.{Some, None, Ok}
use native.Mathlib.Omega.{arith}
use Rattle.base.proofs.Choices.{not_passed}
use Rattle.address.specs.declared.Region.{Region}
use Rattle.config_view.specs.Table.{table_config}
use Rattle.config_table.specs.Holding.{GivenSays}
use Rattle.set_model.specs.Sets.{same, meets, covers, any, enter, without}
use Rattle.set_model.proofs.Tests.{same_is, same_equal}
use Rattle.set_model.proofs.Lists.{table_none, table_some, table_length}
use Rattle.set_slots.specs.Slots.{slot, regions_in, Readable, Became}
use Rattle.set_claims.specs.declared.Bad.{Bad}
use Rattle.set_claims.specs.declared.NotInserted.{NotInserted}
use Rattle.set_claims.specs.Claims.{BadSays}
use Rattle.set_claims.specs.Claims as claims
use Rattle.memory_set.specs.declared.NotMapped.{NotMapped}
use Rattle.memory_set.specs.Looks.{host_in, TranslateSays}
use Rattle.memory_set_changes.specs.Changes.{WentIn, WentOut}
use Rattle.machine.specs.declared.Which.{Which}
use Rattle.machine.specs.declared.Request.{Request}
use Rattle.machine.specs.declared.Request.TheVariants.{Insert, Remove, Translate}
use Rattle.machine.specs.declared.Reason.{Reason}
use Rattle.machine.specs.declared.Answer.{Answer}
use Rattle.machine.specs.State.{out, with_set}
use Rattle.machine.specs.Step.{machine_of, givens, step}
use Rattle.machine.proofs.Cases.{of_present, not_given_lem, overlapping, set_full, enters_set, not_in_set_lem, leaves_set, not_mapped_lem, is_mapped}
use Rattle.machine.proofs.Keeps.{given_valid}
use Rattle.zones.specs.declared.Zone.{Zone}
use Rattle.zones.specs.Layout.{slots_in, place_of, set_at, IsZone}
use Rattle.hv_state.specs.Memory.{plan_of, decode, set_place, set_in, Sound}
use Rattle.hv_state.specs.Serving.{Served, mem}
use Rattle.hv_state.proofs.Serving.{refuses, unsound, succeeds}
use Rattle.hv_state.proofs.Places.{set_high}
use Rattle.hv_state.proofs.Zones.{slots_kept, set_is, set_present, set_sets, set_ok}
use Rattle.hv_asker.specs.Asking.{Here}
use Rattle.hv_sets.specs.declared.Spot.{Spot}
use Rattle.hv_sets.specs.Asked.{IsSpot, of_not_inserted}

-- a set of the zone of the machine that asks
pub spot_is : (t z : List ℕ) (number : ℕ) (w : Which) (zone : Zone) (at : ℕ) → Here t z number × IsZone z (table_config t).machines (machine_of (table_config t) number) zone → at ≡ set_at zone.place zone.slots w → IsSpot t z number w (record { index = zone.index; at = at; slots = zone.slots })
spot_is t z number w zone at h e =
    record {
      here = h.0;
      index = h.1.index;
      at = e ∙ ap (λ (x : ℕ). set_at x zone.slots w) h.1.place ∙ ap (λ (x : ℕ). set_at (place_of (slots_in z (table_config t).machines) (machine_of (table_config t) number)) x w) h.1.slots;
      slots = h.1.slots;
      lies = (let a = set_high (place_of (slots_in z (table_config t).machines) (machine_of (table_config t) number)) (slots_in z (table_config t).machines) w in let b = h.1.inside in omega arith);
    }

module _ (t z : List ℕ) (number : ℕ) (w : Which) (spot : Spot) (is : IsSpot t z number w spot) where
  -- what is said of the spot is said of the machine's set
  pub as_set : (P : ℕ → ℕ → Type 0) → P spot.at spot.slots → P (set_place z (table_config t).machines (machine_of (table_config t) number) w) (slots_in z (table_config t).machines)
  as_set P p = subst (λ (x : ℕ). P x (slots_in z (table_config t).machines)) is.at (subst (λ (x : ℕ). P spot.at x) is.slots p)

  -- the regions of the set are those that the memories mean
  means : regions_in z (set_place z (table_config t).machines (machine_of (table_config t) number) w) (slots_in z (table_config t).machines) ≡ set_in z (table_config t).machines (machine_of (table_config t) number) w
  means = sym (set_is z (table_config t).machines (machine_of (table_config t) number) w is.here.machine)

  -- sound memories have a set there
  pub no_set_lem : (tr o w' : List ℕ) (q : Request) (why : Bad) → BadSays z (set_place z (table_config t).machines (machine_of (table_config t) number) w) (slots_in z (table_config t).machines) why → Served (mem t z tr o w') number q (mem t z tr o w') Answer.Corrupt
  no_set_lem tr o w' q Bad.NoSet b = unsound (mem t z tr o w') number q Answer.Corrupt (λ s. b is.lies)
  no_set_lem tr o w' q Bad.Corrupt b = unsound (mem t z tr o w') number q Answer.Corrupt (λ s. b.broken (s.zones.sets (machine_of (table_config t) number) is.here.machine w))

  -- as many regions as the count says
  long : Readable z (set_place z (table_config t).machines (machine_of (table_config t) number) w) (slots_in z (table_config t).machines) → length (set_in z (table_config t).machines (machine_of (table_config t) number) w) ≡ get_or z (set_place z (table_config t).machines (machine_of (table_config t) number) w) 0
  unfolding regions_in
  long r =
      sym (ap length means)
      ∙ table_length (slot z (set_place z (table_config t).machines (machine_of (table_config t) number) w)) (min (slots_in z (table_config t).machines) (get_or z (set_place z (table_config t).machines (machine_of (table_config t) number) w) 0))
      ∙ (let f = r.few in omega arith)

  -- the set became l, and that is the step's
  pub set_served : (tr o w' z' : List ℕ) (q : Request) (l : List Region) → Became z (set_place z (table_config t).machines (machine_of (table_config t) number) w) (slots_in z (table_config t).machines) l z'
      → (Sound (mem t z tr o w') → step (plan_of (mem t z tr o w')) (decode (mem t z tr o w')) number q ≡ out Answer.Done (with_set (decode (mem t z tr o w')) (machine_of (table_config t) number) w l))
      → Served (mem t z tr o w') number q (mem t z' tr o w') Answer.Done
  set_served tr o w' z' q l c s =
      succeeds (mem t z tr o w') number q (mem t z' tr o w') Answer.Done (λ r. r) refl
      (λ h i. record { config = table_config t; slots = slots_kept z z' (table_config t).machines c.only.long i; frames = (plan_of (mem t z tr o w')).frames; usable = (plan_of (mem t z tr o w')).usable })
      (λ h. set_ok z z' (table_config t).machines (machine_of (table_config t) number) w l is.here.machine c h.zones)
      (λ h. h.frames)
      (λ h. s h ∙ sym (λ i. out Answer.Done (record { present = set_present z z' (table_config t).machines (machine_of (table_config t) number) w l is.here.machine c i; set = set_sets z z' (table_config t).machines (machine_of (table_config t) number) w l is.here.machine c i; frame = (decode (mem t z tr o w')).frame; word = (decode (mem t z tr o w')).word })))

  -- ---- a region goes in

  module _ (r : Region) where
    pub is_not_given : (tr o w' : List ℕ) → GivenSays t spot.index r (Ok None) → Served (mem t z tr o w') number (Insert w r) (mem t z tr o w') (Answer.No Reason.NotGiven)
    is_not_given tr o w' g =
        refuses (mem t z tr o w') number (Insert w r) (Answer.No Reason.NotGiven)
        (λ s. of_present (plan_of (mem t z tr o w')) (decode (mem t z tr o w')) number (Insert w r) is.here.machine is.here.present
        ∙ not_given_lem (plan_of (mem t z tr o w')) (decode (mem t z tr o w')) (machine_of (table_config t) number) w r (none (subst (λ (x : ℕ). GivenSays t x r (Ok None)) is.index g)))
      where
        none : GivenSays t (machine_of (table_config t) number) r (Ok None) → any (same r) (givens (table_config t) (machine_of (table_config t) number) w) ≡ false
        none g = table_none (same r) ((table_config t).region (machine_of (table_config t) number)) ((table_config t).count (machine_of (table_config t) number)) (λ i l. not_passed (same r ((table_config t).region (machine_of (table_config t) number) i)) (λ e. g.2 i l (same_is r ((table_config t).region (machine_of (table_config t) number) i) e)))

    -- the machine is given it
    module _ (i : ℕ) (g : GivenSays t spot.index r (Ok (Some i))) where
      is_given : any (same r) (givens (table_config t) (machine_of (table_config t) number) w) ≡ true
      is_given = some (subst (λ (x : ℕ). GivenSays t x r (Ok (Some i))) is.index g)
        where
          some : GivenSays t (machine_of (table_config t) number) r (Ok (Some i)) → any (same r) (givens (table_config t) (machine_of (table_config t) number) w) ≡ true
          some g = table_some (same r) ((table_config t).region (machine_of (table_config t) number)) ((table_config t).count (machine_of (table_config t) number)) i g.1.is.region (same_equal r ((table_config t).region (machine_of (table_config t) number) i) g.1.is.is)

      pub not_inserted : (tr o w' : List ℕ) (why : NotInserted) → claims.Refused z (set_place z (table_config t).machines (machine_of (table_config t) number) w) (slots_in z (table_config t).machines) r why → Served (mem t z tr o w') number (Insert w r) (mem t z tr o w') (of_not_inserted why)
      not_inserted tr o w' (NotInserted.Bad why) d = no_set_lem tr o w' (Insert w r) why d
      not_inserted tr o w' (NotInserted.NotValid fault) d = unsound (mem t z tr o w') number (Insert w r) Answer.Corrupt (λ s. d.2 (given_valid (plan_of (mem t z tr o w')) s.good.plan (machine_of (table_config t) number) w r is.here.machine is_given))
      not_inserted tr o w' NotInserted.Overlap d =
          refuses (mem t z tr o w') number (Insert w r) (Answer.No Reason.Overlap)
          (λ s. of_present (plan_of (mem t z tr o w')) (decode (mem t z tr o w')) number (Insert w r) is.here.machine is.here.present
          ∙ overlapping (plan_of (mem t z tr o w')) (decode (mem t z tr o w')) (machine_of (table_config t) number) w r is_given (sym (ap (any (meets r)) means) ∙ d.2))
      not_inserted tr o w' NotInserted.NoRoom d =
          refuses (mem t z tr o w') number (Insert w r) (Answer.No Reason.NoRoom)
          (λ s. of_present (plan_of (mem t z tr o w')) (decode (mem t z tr o w')) number (Insert w r) is.here.machine is.here.present
          ∙ set_full (plan_of (mem t z tr o w')) (decode (mem t z tr o w')) (machine_of (table_config t) number) w r is_given (sym (ap (any (meets r)) means) ∙ d.0.alone) (let e = long d.0.readable in let f = d.1 in omega arith))

      pub inserted : (tr o w' z' : List ℕ) → WentIn z (set_place z (table_config t).machines (machine_of (table_config t) number) w) (slots_in z (table_config t).machines) r z' → Served (mem t z tr o w') number (Insert w r) (mem t z' tr o w') Answer.Done
      inserted tr o w' z' d =
          set_served tr o w' z' (Insert w r) (enter r (set_in z (table_config t).machines (machine_of (table_config t) number) w)) (subst (λ (l : List Region). Became z (set_place z (table_config t).machines (machine_of (table_config t) number) w) (slots_in z (table_config t).machines) (enter r l) z') means d.became)
          (λ s. of_present (plan_of (mem t z tr o w')) (decode (mem t z tr o w')) number (Insert w r) is.here.machine is.here.present
          ∙ enters_set (plan_of (mem t z tr o w')) (decode (mem t z tr o w')) (machine_of (table_config t) number) w r is_given (sym (ap (any (meets r)) means) ∙ d.fitting.alone) (let e = long d.fitting.readable in let f = d.room in omega arith))

    -- ---- a region goes out

    pub not_there : (tr o w' : List ℕ) → any (same r) (regions_in z (set_place z (table_config t).machines (machine_of (table_config t) number) w) (slots_in z (table_config t).machines)) ≡ false → Served (mem t z tr o w') number (Remove w r) (mem t z tr o w') (Answer.No Reason.NotInSet)
    not_there tr o w' d =
        refuses (mem t z tr o w') number (Remove w r) (Answer.No Reason.NotInSet)
        (λ s. of_present (plan_of (mem t z tr o w')) (decode (mem t z tr o w')) number (Remove w r) is.here.machine is.here.present
        ∙ not_in_set_lem (plan_of (mem t z tr o w')) (decode (mem t z tr o w')) (machine_of (table_config t) number) w r (sym (ap (any (same r)) means) ∙ d))

    pub removed : (tr o w' z' : List ℕ) → WentOut (same r) z (set_place z (table_config t).machines (machine_of (table_config t) number) w) (slots_in z (table_config t).machines) r z' → Served (mem t z tr o w') number (Remove w r) (mem t z' tr o w') Answer.Done
    removed tr o w' z' d =
        set_served tr o w' z' (Remove w r) (without (same r) (set_in z (table_config t).machines (machine_of (table_config t) number) w)) (subst (λ (l : List Region). Became z (set_place z (table_config t).machines (machine_of (table_config t) number) w) (slots_in z (table_config t).machines) (without (same r) l) z') means d.became)
        (λ s. of_present (plan_of (mem t z tr o w')) (decode (mem t z tr o w')) number (Remove w r) is.here.machine is.here.present
        ∙ leaves_set (plan_of (mem t z tr o w')) (decode (mem t z tr o w')) (machine_of (table_config t) number) w r (sym (ap (any (same r)) means) ∙ d.some))

  -- ---- a guest address

  pub translated : (tr o w' : List ℕ) (addr h : ℕ) → TranslateSays z (set_place z (table_config t).machines (machine_of (table_config t) number) w) (slots_in z (table_config t).machines) addr (Ok h) → Served (mem t z tr o w') number (Translate w addr) (mem t z tr o w') (Answer.Address h)
  translated tr o w' addr h d =
      record {
        kept = λ r. absurd r;
        same = λ s. of_present (plan_of (mem t z tr o w')) (decode (mem t z tr o w')) number (Translate w addr) is.here.machine is.here.present
            ∙ is_mapped (decode (mem t z tr o w')) (machine_of (table_config t) number) w addr (sym (ap (any (covers addr)) means) ∙ d.covered)
            ∙ sym (ap (λ (x : ℕ). out (Answer.Address x) (decode (mem t z tr o w'))) (d.is ∙ ap (λ (l : List Region). host_in l addr) means));
        sound = λ s. s;
        plan = λ s. refl;
      }

  pub untranslated : (tr o w' : List ℕ) (addr : ℕ) → TranslateSays z (set_place z (table_config t).machines (machine_of (table_config t) number) w) (slots_in z (table_config t).machines) addr (Err NotMapped.NoRegion) → Served (mem t z tr o w') number (Translate w addr) (mem t z tr o w') (Answer.No Reason.NotMapped)
  untranslated tr o w' addr d =
      refuses (mem t z tr o w') number (Translate w addr) (Answer.No Reason.NotMapped)
      (λ s. of_present (plan_of (mem t z tr o w')) (decode (mem t z tr o w')) number (Translate w addr) is.here.machine is.here.present
      ∙ not_mapped_lem (decode (mem t z tr o w')) (machine_of (table_config t) number) w addr (sym (ap (any (covers addr)) means) ∙ d.1))
