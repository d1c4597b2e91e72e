-- The memories of the examples: those of the truck, in which machine 7 is not there, is there, has its region for its processors, or for its
-- devices; of the two frames of its pool, one has contents. Assumes nothing.
use mathlib.Core.Path.{◌≡◌, refl, sym, ap}
use mathlib.Core.Bool.{false}
use mathlib.Core.List.{List, [], ◌∷◌}
use Prim.Native.Nat.{ℕ, ◌+◌, ◌*◌, ◌<◌}
use native.Mathlib.Nat.{zero-mul, not-suc-le-zero}
use native.Mathlib.Omega.{arith}
use lib.Dec.{lit<, lit≤, eqb}
use lib.ListN.{length, get_or, replicate}
use Rattle.base.proofs.Choices.{lowest_is, lowest_none}
use Rattle.address.specs.declared.Region.{Region}
use Rattle.region_words.specs.Words.{number_of, nothing, HasRegion}
use Rattle.region_words.proofs.Laws.{region_back}
use Rattle.config_view.specs.Table.{table_config}
use Rattle.config_examples.proofs.Pairs.{below_two}
use Rattle.config_examples.proofs.Truck.{table, first, first_valid, machines_is, number_first, number_second, pool_is}
use Rattle.set_slots.specs.Slots.{regions_in, SetOk}
use Rattle.machine.specs.declared.Request.{Request}
use Rattle.machine.specs.declared.Reason.{Reason}
use Rattle.machine.specs.declared.Answer.{Answer}
use Rattle.machine.specs.State.{State, out}
use Rattle.machine.specs.Step.{machine_of, absent}
use Rattle.zones.specs.declared.Zone.{Zone}
use Rattle.zones.specs.Layout.{slots_in, place_of, stride, IsZone}
use Rattle.hv_state.specs.Serving.{Served, mem}
use Rattle.hv_state.proofs.Serving.{unsound}
use Rattle.hv_asker.specs.declared.Client.{Client}
use Rattle.hv_asker.specs.Asking.{Here, Away, Nobody, IsClient, Unasked.IsNobody, Unasked.IsAway}
use Rattle.hv_asker.proofs.Laws.{flag_here, flag_away, unasked}

-- ---- who asks

-- machine 7 is the first of the truck
pub seven : machine_of (table_config table) 7 ≡ 0
seven = lowest_is (λ m. eqb ((table_config table).number m) 7) (table_config table).machines 0 (rw machines_is (lit< tt)) (rw number_first refl) (λ m l. absurd (not-suc-le-zero l))

-- and no machine has the number 8
pub no_eight : Nobody table 8
no_eight =
    record {
      none = lowest_none (λ m. eqb ((table_config table).number m) 8) (table_config table).machines
          (λ m l. below_two (λ m. eqb ((table_config table).number m) 8 ≡ false) (rw number_first refl) (rw number_second refl) m (rw machines_is at l));
    }

pub seven_below : machine_of (table_config table) 7 < (table_config table).machines
seven_below = rw (seven, machines_is) (lit< tt)

-- ---- the machines' words: each of the two machines has eleven

-- no machine is there
abbrev pub away : List ℕ
away = replicate 22 0

-- machine 7 is there
abbrev pub there : List ℕ
there = 1 ∷ replicate 21 0

-- and its processors have its region
abbrev pub mapped : List ℕ
mapped = 1 ∷ 1 ∷ 0 ∷ 4096 ∷ 1 ∷ 0 ∷ replicate 16 0

-- or its devices
abbrev pub driven : List ℕ
driven = 1 ∷ 0 ∷ 0 ∷ 0 ∷ 0 ∷ 0 ∷ 1 ∷ 0 ∷ 4096 ∷ 1 ∷ 0 ∷ replicate 11 0

-- ---- where machine 7's words are

module _ (z : List ℕ) (long : length z ≡ 22) where
  pub slots_one : slots_in z (table_config table).machines ≡ 1
  unfolding slots_in
  slots_one = rw (machines_is, long) refl

  pub place_zero : place_of (slots_in z (table_config table).machines) (machine_of (table_config table) 7) ≡ 0
  unfolding place_of
  place_zero = rw seven (zero-mul (stride (slots_in z (table_config table).machines)))

  pub is_here : get_or z 0 0 ≡ 1 → Here table z 7
  is_here e = record { machine = seven_below; present = flag_here z (table_config table).machines (machine_of (table_config table) 7) seven_below (rw place_zero e) }

  pub is_away : get_or z 0 0 ≡ 0 → Away table z 7
  is_away e = record { machine = seven_below; absent = flag_away z (table_config table).machines (machine_of (table_config table) 7) seven_below (rw place_zero e) }

-- the words of machine 7
abbrev pub zone : Zone
zone = record { index = 0; place = 0; slots = 1 }

pub is_zone : (z : List ℕ) → length z ≡ 22 → IsZone z (table_config table).machines (machine_of (table_config table) 7) zone
is_zone z long =
    record {
      index = sym seven;
      machine = seven_below;
      shaped = record { exact = rw (slots_one z long, machines_is) long };
      slots = sym (slots_one z long);
      place = sym (place_zero z long);
      inside = rw (place_zero z long, slots_one z long, long) (lit≤ tt);
    }

-- who asks for frames
abbrev pub client : Client
client = record { client = 0; base = 65536; place = 0; slots = 1 }

pub is_client : (z : List ℕ) → length z ≡ 22 → get_or z 0 0 ≡ 1 → IsClient table z 7 client
is_client z long e =
    record {
      here = is_here z long e;
      client = sym seven;
      base = sym (ap (λ (r : Region). r.host) pool_is);
      place = (is_zone z long).place;
      slots = (is_zone z long).slots;
      inside = (is_zone z long).inside;
    }

-- ---- sets of one slot

-- a set without a region
module _ (z : List ℕ) (at : ℕ) (e : get_or z at 0 ≡ 0) (h : HasRegion z (at + 1 + 4 * 0) nothing) where
  pub regions_none : regions_in z at 1 ≡ []
  unfolding regions_in
  regions_none = rw e refl

  pub none_ok : SetOk z at 1
  none_ok = record { few = rw e (lit≤ tt); kinds = λ i l. let q = rw e at l in omega arith; clear = λ i l k. let q : i ≡ 0 = omega arith in rw q h; ordered = rw regions_none tt }

-- a set with machine 7's
module _ (z : List ℕ) (at : ℕ) (e : get_or z at 0 ≡ 1) (h : HasRegion z (at + 1 + 4 * 0) first) where
  pub regions_one : regions_in z at 1 ≡ first ∷ []
  unfolding regions_in
  regions_one = rw e (ap (λ r. r ∷ []) (region_back z (at + 1 + 4 * 0) first h))

  pub one_ok : SetOk z at 1
  unfolding number_of
  one_ok =
      record {
        few = rw e (lit≤ tt);
        kinds = λ i l. let p = rw e at l in let q : i ≡ 0 = omega arith in let k = h.kind in rw q (rw k (lit≤ tt));
        clear = λ i l k. let p = rw e at l in omega arith;
        ordered = rw regions_one (first_valid, tt, tt);
      }

-- the slots of the two sets, without a region and with machine 7's
pub has_none : HasRegion there 2 nothing
unfolding number_of
has_none = record { guest = refl; host = refl; pages = refl; kind = refl }

pub drives_none : HasRegion there 7 nothing
unfolding number_of
drives_none = record { guest = refl; host = refl; pages = refl; kind = refl }

pub has_mapped : HasRegion mapped 2 first
unfolding number_of
has_mapped = record { guest = refl; host = refl; pages = refl; kind = refl }

pub has_driven : HasRegion driven 7 first
unfolding number_of
has_driven = record { guest = refl; host = refl; pages = refl; kind = refl }

-- ---- answers that do not depend on what is asked

-- nobody has the number
pub no_machine_lem : (z tr o w : List ℕ) (q : Request) → ((s : State) (m : ℕ) → absent s m q ≡ out (Answer.No Reason.NotPresent) s) → Served (mem table z tr o w) 8 q (mem table z tr o w) (Answer.No Reason.NoMachine)
no_machine_lem z tr o w q e = unasked (mem table z tr o w) 8 q Reason.NoMachine e (IsNobody no_eight)

-- the machine is not there
pub not_there : (tr o w : List ℕ) (q : Request) → ((s : State) (m : ℕ) → absent s m q ≡ out (Answer.No Reason.NotPresent) s) → Served (mem table away tr o w) 7 q (mem table away tr o w) (Answer.No Reason.NotPresent)
not_there tr o w q e = unasked (mem table away tr o w) 7 q Reason.NotPresent e (IsAway (is_away away refl refl))

-- no memories are not sound
pub no_memories : (tr o w : List ℕ) (q : Request) → Served (mem [] [] tr o w) 7 q (mem [] [] tr o w) Answer.Corrupt
no_memories tr o w q = unsound (mem [] [] tr o w) 7 q Answer.Corrupt (λ s. let e = s.table.table.long in omega arith)
