-- The memories are sound exactly where every part of them is right. Assumes nothing.
use mathlib.Core.Path.{◌≡◌, refl, sym, ◌∙◌, ap, subst}
use mathlib.Core.Bool.{true}
use mathlib.Core.List.{List}
use Prim.Native.Nat.{ℕ, ◌+◌, ◌*◌, ◌/◌, ◌%◌, ◌≤◌, ◌<◌}
use lib.ListN.{get_or}
use native.Mathlib.Decide.{dec_lt}
use native.Mathlib.Omega.{arith}
use borrow.Author.Tests.{eq-eqb, ne_eqb}
use Rattle.base.proofs.Choices.{never}
use Rattle.address.specs.declared.Region.{Region}
use Rattle.set_model.specs.Sets.{Every, Ordered}
use Rattle.bitmap_tree.specs.Tree.{cap}
use Rattle.owners.specs.States as frames
use Rattle.owners.specs.States.{State.Free, State.Reserved, State.Owned, state}
use Rattle.owners.proofs.States.{client_not_reserved}
use Rattle.contents.specs.Contents.{frames_in, Clean}
use Rattle.config_view.specs.Table.{table_config}
use Rattle.machine.specs.declared.Which.{Which}
use Rattle.machine.specs.Good.{given, SetGood, FramesGood, Cleared}
use Rattle.zones.specs.Layout.{slots_in, place_of, Shaped}
use Rattle.hv_state.specs.Memory.{Mem, config_in, slots_of, plan_of, present_in, set_in, ZonesOk, Sound}
use Rattle.hv_state.specs.Serving.{mem}
use Rattle.hv_state.proofs.Zones.{present_is, present_none, set_is, set_none}
use Rattle.hv_check.specs.Checking.{MachineRight, Machines, FrameRight, FrameOf}

-- ---- of sound memories, every part is right

-- the words of every machine
pub sound_machine : (b : Mem) (m : ℕ) → Sound b → m < (config_in b).machines → MachineRight (config_in b) b.zones (slots_of b) m
sound_machine b m s l =
    record {
      room = s.good.plan.room m l;
      flag = s.zones.flagged.flags m l;
      sets = λ w. record {
        ok = s.zones.sets m l w;
        whole = subst (λ (r : List Region). Every (given (config_in b) m w) r) (set_is b.zones (config_in b).machines m w l) (s.good.sets m w).whole;
        empty = λ f. sym (set_is b.zones (config_in b).machines m w l) ∙ (s.good.sets m w).empty (present_is b.zones (config_in b).machines m l ∙ ne_eqb (get_or b.zones (place_of (slots_of b) m) 0) 1 f);
      };
    }

-- and every frame that has contents
pub sound_frame : (b : Mem) (k : ℕ) → Sound b → k < frames_in b.words → FrameOf b k
sound_frame b k s l = go (state b.tree b.owners k) refl
  where
    go : (x : frames.State) → state b.tree b.owners k ≡ x → FrameRight (present_in b.zones (config_in b).machines) x
    go Free e = tt
    go Reserved e = s.good.frames.others k l e
    go (Owned m) e = s.good.frames.owner m k e

-- ---- where every part is right, the memories are sound

module _ (t z tr o w : List ℕ) (right : (m : ℕ) → m < (table_config t).machines → MachineRight (table_config t) z (slots_in z (table_config t).machines) m) where
  -- every set is good
  set_good : (m : ℕ) (v : Which) → SetGood (plan_of (mem t z tr o w)) (present_in z (table_config t).machines m) m v (set_in z (table_config t).machines m v)
  set_good m v = go (dec_lt m (table_config t).machines)
    where
      go : Dec (m < (table_config t).machines) → SetGood (plan_of (mem t z tr o w)) (present_in z (table_config t).machines m) m v (set_in z (table_config t).machines m v)
      go (yes l) =
          let e = set_is z (table_config t).machines m v l in
          let h = (right m l).sets v in
          record {
            ordered = subst Ordered (sym e) h.ok.ordered;
            whole = subst (λ (r : List Region). Every (given (table_config t) m v) r) (sym e) h.whole;
            empty = λ f. e ∙ h.empty (λ q. never (sym (eq-eqb (get_or z (place_of (slots_in z (table_config t).machines) m) 0) 1 q) ∙ sym (present_is z (table_config t).machines m l) ∙ f));
          }
      go (no g) =
          let e = set_none z (table_config t).machines m v (omega (arith, g)) in
          record {
            ordered = subst Ordered (sym e) tt;
            whole = subst (λ (r : List Region). Every (given (table_config t) m v) r) (sym e) tt;
            empty = λ f. e;
          }

  -- a machine that is there is one of the configuration's
  known : (m : ℕ) → present_in z (table_config t).machines m ≡ true → m < (table_config t).machines
  known m e = go (dec_lt m (table_config t).machines)
    where
      go : Dec (m < (table_config t).machines) → m < (table_config t).machines
      go (yes l) = l
      go (no g) = never (sym e ∙ present_none z (table_config t).machines m (omega (arith, g)))

  -- the frames are good
  frames_good : Clean (table_config t).pool.host tr o w → ((k : ℕ) → k < frames_in w → FrameRight (present_in z (table_config t).machines) (state tr o k)) → FramesGood (plan_of (mem t z tr o w)) (present_in z (table_config t).machines) (state tr o)
  frames_good c f =
      record {
        reserved = c.beyond;
        others = λ k l e. subst (λ (x : frames.State). FrameRight (present_in z (table_config t).machines) x) e (f k l);
        owner = λ m k e. owner m k e (dec_lt k (frames_in w));
      }
    where
      owner : (m k : ℕ) → state tr o k ≡ Owned m → Dec (k < frames_in w) → present_in z (table_config t).machines m ≡ true
      owner m k e (yes l) = subst (λ (x : frames.State). FrameRight (present_in z (table_config t).machines) x) e (f k l)
      owner m k e (no g) = absurd (client_not_reserved m (sym e ∙ c.beyond k (omega (arith, g))))

  -- and every free one is cleared
  cleared : Clean (table_config t).pool.host tr o w → Cleared (state tr o) (λ j. get_or w j 0)
  cleared c j e = let q : 512 * (j / 512) + j % 512 ≡ j = omega arith in rw q at (c.zero (j / 512) e (j % 512) (omega arith))

-- the words of every machine, with the slots as they are
right_all : {t z : List ℕ} {n slots : ℕ} → Machines t z n slots → (m : ℕ) → m < (table_config t).machines → MachineRight (table_config t) z (slots_in z (table_config t).machines) m
right_all {t} {z} h m l = subst (λ (x : ℕ). MachineRight (table_config t) z x m) (h.laid.is ∙ ap (slots_in z) h.number) (h.right m l)

-- the machines' words are in order
zones_ok : {t z : List ℕ} {n slots : ℕ} → Machines t z n slots → ZonesOk z (table_config t).machines
zones_ok {t} {z} h =
    record {
      flagged = record { shaped = subst (λ (x : ℕ). Shaped z x) h.number h.laid.shaped; flags = λ m l. (right_all h m l).flag };
      sets = λ m l w. ((right_all h m l).sets w).ok;
    }

-- the memories are sound
pub all_sound : (t z tr o w : List ℕ) (n slots : ℕ) → Machines t z n slots → Clean (table_config t).pool.host tr o w → (table_config t).pool.pages ≤ cap tr → frames_in w ≤ (table_config t).pool.pages
    → ((k : ℕ) → k < frames_in w → FrameRight (present_in z n) (state tr o k)) → Sound (mem t z tr o w)
all_sound t z tr o w n slots h c many few f =
    record {
      table = h.table;
      zones = zones_ok h;
      frames = c;
      good = record {
        plan = record { config = h.table.ok; room = λ m l. (right_all h m l).room; pages = few; frames = many };
        known = known t z tr o w (right_all h);
        sets = set_good t z tr o w (right_all h);
        frames = frames_good t z tr o w (right_all h) c (λ k l. subst (λ (x : ℕ). FrameRight (present_in z x) (state tr o k)) h.number (f k l));
        cleared = cleared t z tr o w (right_all h) c;
      };
    }
