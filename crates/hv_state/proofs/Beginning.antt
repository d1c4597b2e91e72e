-- What memories mean in which no machine is there, no set has a region and every frame that can be used is free and cleared: the start of
-- the abstract machine. They are sound. Assumes nothing.
use mathlib.Core.Path.{◌≡◌, refl, sym, ◌∙◌, ap, subst}
use mathlib.Core.Bool.{Bool, true, false}
use mathlib.Core.List.{List, []}
use Prim.Native.Nat.{ℕ, ◌+◌, ◌*◌, ◌<◌, min}
use lib.Dec.{eqb, ltb}
use lib.ListN.{get_or}
use native.Mathlib.Omega.{arith}
use borrow.Author.Tests.{ltb-true, ltb-false}
use Rattle.base.specs.Choices.{pick, both}
use Rattle.base.proofs.Choices.{by}
use Rattle.address.specs.declared.Region.{Region}
use Rattle.region_words.specs.Words.{number_of}
use Rattle.config.specs.Tables.{Writable}
use Rattle.set_model.specs.Sets.{table}
use Rattle.set_slots.specs.Slots.{slot, regions_in, SetOk}
use Rattle.owners.specs.States.{State.Free, State.Reserved, state}
use Rattle.contents.specs.Contents.{frames_in, Clean}
use Rattle.machine.specs.declared.Which.{Which}
use Rattle.machine.specs.Run.{start}
use Rattle.machine.specs.Good.{PlanOk, Good}
use Rattle.machine.proofs.Keeps.{start_good}
use Rattle.zones.specs.Layout.{slots_in, place_of, Shaped}
use Rattle.hv_state.specs.Memory.{Mem, config_in, base_in, plan_of, present_in, set_place, set_in, decode, ZonesOk, Sound}

not_both : (b : Bool) → both b false ≡ false
not_both true = refl
not_both false = refl

either : (b : Bool) → pick {A = List Region} b [] [] ≡ []
either true = refl
either false = refl

-- ---- the machines' words are all 0

module _ (z : List ℕ) (n : ℕ) (zero : (k : ℕ) → get_or z k 0 ≡ 0) where
  -- no machine is there
  absent : (m : ℕ) → present_in z n m ≡ false
  unfolding present_in
  absent m = ap (λ (x : ℕ). both (ltb m n) (eqb x 1)) (zero (place_of (slots_in z n) m)) ∙ not_both (ltb m n)

  no_regions : (at slots : ℕ) → regions_in z at slots ≡ []
  unfolding regions_in
  no_regions at slots = ap (λ (x : ℕ). table (slot z at) (min slots x)) (zero at) ∙ ap (table (slot z at)) (let q : min slots 0 ≡ 0 = omega arith in q)

  -- every set is empty
  empty : (m : ℕ) (w : Which) → set_in z n m w ≡ []
  unfolding set_in
  empty m w = ap (λ (x : List Region). pick (ltb m n) x []) (no_regions (set_place z n m w) (slots_in z n)) ∙ either (ltb m n)

  -- and in order
  set_ok : (at slots : ℕ) → SetOk z at slots
  unfolding number_of
  set_ok at slots =
      let c = zero at in
      record {
        few = omega arith;
        kinds = λ i l. absurd (omega arith);
        clear = λ i l h. record { guest = zero (at + 1 + 4 * i); host = zero (at + 1 + 4 * i + 1); pages = zero (at + 1 + 4 * i + 2); kind = zero (at + 1 + 4 * i + 3) };
        ordered = rw (no_regions at slots) tt;
      }

  zones_ok : Shaped z n → ZonesOk z n
  zones_ok h =
      record {
        flagged = record { shaped = h; flags = λ m l. let f = zero (place_of (slots_in z n) m) in omega arith };
        sets = λ m l w. set_ok (set_place z n m w) (slots_in z n);
      }

-- ---- the memories at the start

-- the table is one, the words are enough for it, no machine is there, and every frame that can be used is free and cleared
pub record Begins (b : Mem) : Type 0 where
  pub table : Writable b.table
  pub plan : PlanOk (plan_of b)
  pub shaped : Shaped b.zones (config_in b).machines
  pub none : (k : ℕ) → get_or b.zones k 0 ≡ 0
  pub frames : Clean (base_in b) b.tree b.owners b.words
  pub free : (k : ℕ) → k < frames_in b.words → state b.tree b.owners k ≡ Free
  pub cleared : (j : ℕ) → get_or b.words j 0 ≡ 0

module _ (b : Mem) (h : Begins b) where
  frame_is : (k : ℕ) → state b.tree b.owners k ≡ pick (ltb k (frames_in b.words)) Free Reserved
  frame_is k =
      by (λ f. state b.tree b.owners k ≡ f) (ltb k (frames_in b.words)) Free Reserved
      (λ q. h.free k (ltb-true k (frames_in b.words) q))
      (λ q. h.frames.beyond k (let l = ltb-false k (frames_in b.words) q in omega arith))

  -- they mean the start
  pub means_start : decode b ≡ start (plan_of b)
  means_start =
      λ j. record {
        present = λ m. absent b.zones (config_in b).machines h.none m j;
        set = λ m w. empty b.zones (config_in b).machines h.none m w j;
        frame = λ k. frame_is k j;
        word = λ k. h.cleared k j;
      }

  -- and are sound
  pub begins_sound : Sound b
  begins_sound =
      record {
        table = h.table;
        zones = zones_ok b.zones (config_in b).machines h.none h.shaped;
        frames = h.frames;
        good = subst (Good (plan_of b)) (sym means_start) (start_good (plan_of b) h.plan);
      }
