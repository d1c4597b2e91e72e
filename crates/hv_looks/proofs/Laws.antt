-- From where a machine and its sets lie to what they mean. Assumes nothing.
use mathlib.Core.Path.{◌≡◌, sym, ◌∙◌, ap, subst}
use mathlib.Core.List.{List}
use Prim.Native.Nat.{ℕ, ◌+◌, ◌*◌, ◌≤◌, ◌<◌}
use lib.ListN.{length, get_or}
use Rattle.std.proofs.Common.{Option, Some, None, Result, Ok, Err}
use Rattle.std.specs.Option.{ok_or}
use native.Mathlib.Omega.{arith}
use Rattle.address.specs.declared.Region.{Region}
use Rattle.region_words.specs.Words.{nothing, region_of}
use Rattle.set_model.specs.Sets.{table}
use Rattle.set_model.proofs.Lists.{table_length}
use Rattle.set_slots.specs.Slots.{slot, Readable, SetOk}
use Rattle.set_slots.proofs.Found.{regions_are}
use Rattle.set_slots.proofs.Canonical.{table_at}
use Rattle.set_claims.specs.declared.Bad.{Bad}
use Rattle.set_claims.specs.Claims.{BadSays}
use Rattle.set_claims.proofs.Theorems.{never_bad}
use Rattle.machine.specs.declared.Which.{Which}
use Rattle.zones.specs.declared.Zone.{Zone}
use Rattle.zones.specs.declared.NotLocated.{NotLocated}
use Rattle.zones.specs.Layout.{slots_in, place_of, set_at, IsZone, LocateSays}
use Rattle.hv_state.specs.Memory.{set_place}
use Rattle.hv_state.proofs.Places.{set_high}
use Rattle.hv_state.proofs.Zones.{set_is}
use Rattle.hv_looks.specs.declared.Spot.{Spot}
use Rattle.hv_looks.specs.declared.NotSeen.{NotSeen}
use Rattle.hv_looks.specs.Looks.{machines_in, named, Known, regions_of, IsRegion, IsSpot, Inside, SpotSays, PlaceSays, PresenceSays, SetRegionSays, not_seen, no_region}

module _ (z : List ℕ) (zone : Zone) (w : Which) (at : ℕ) (e : at ≡ set_at zone.place zone.slots w) where
  -- a set of a zone's words that is in order can be read
  pub spot_bad : (why : Bad) → Inside z zone → BadSays z at zone.slots why → SetOk z (set_at zone.place zone.slots w) zone.slots → ⊥
  spot_bad why l b ok = never_bad (let h = set_high zone.place zone.slots w in omega arith) (subst (λ (x : ℕ). SetOk z x zone.slots) (sym e) ok) why b

  -- and what was read of it is so
  pub spot_good : (n : ℕ) → Readable z at zone.slots → n ≡ get_or z at 0 → IsSpot z (set_at zone.place zone.slots w) zone.slots (record { at = at; count = n })
  spot_good n r c = record { begins = e; readable = subst (λ (x : ℕ). Readable z x zone.slots) e r; count = c ∙ ap (λ (x : ℕ). get_or z x 0) e }

-- a machine that is not located is not seen, nor is a set of it
pub machine_not_seen : (t z : List ℕ) (number : ℕ) (why : NotLocated) → length t ≡ 8325 → LocateSays t z number (Err why) → PresenceSays t z number (Err (not_seen why))
machine_not_seen t z number NotLocated.NoMachine l h = (l, record { none = h.1 })
machine_not_seen t z number NotLocated.Corrupt l h = let k = h l in record { long = l; machine = k.0; wrong = k.1 }

pub set_not_seen : (t z : List ℕ) (number : ℕ) (w : Which) (why : NotLocated) → length t ≡ 8325 → LocateSays t z number (Err why) → PlaceSays t z number w (Err (not_seen why))
set_not_seen t z number w NotLocated.NoMachine l h = (l, record { none = h.1 })
set_not_seen t z number w NotLocated.Corrupt l h = let k = h l in record { long = l; machine = k.0; wrong = λ ok. k.1 ok.0 }

-- nor a region of a set that is not
pub region_not_seen : (t z : List ℕ) (number : ℕ) (w : Which) (i : ℕ) (why : NotSeen) → PlaceSays t z number w (Err why) → SetRegionSays t z number w i (Err (no_region why))
region_not_seen t z number w i NotSeen.NoMachine h = h
region_not_seen t z number w i NotSeen.NoTable h = h
region_not_seen t z number w i NotSeen.Corrupt h = h

module _ (t z : List ℕ) (number : ℕ) (zone : Zone) (long : length t ≡ 8325) (h : IsZone z (machines_in t) (named t number) zone) where
  -- a machine that was located is known
  pub known : Known t z number
  known = record { long = long; machine = h.machine; shaped = h.shaped }

  -- and its words are there
  pub inside : Inside z zone
  inside = let p = h.place in let s = h.slots in let i = h.inside in omega arith

  -- where its set begins
  place_is : (w : Which) → set_at zone.place zone.slots w ≡ set_place z (machines_in t) (named t number) w
  place_is w = ap (λ (p : ℕ). set_at p zone.slots w) h.place ∙ ap (λ (s : ℕ). set_at (place_of (slots_in z (machines_in t)) (named t number)) s w) h.slots

  -- what is said of a set of its words is said of the set
  pub placed : (w : Which) (r : Option Spot) → SpotSays z zone w r → PlaceSays t z number w (ok_or r NotSeen.Corrupt)
  placed w (Some s) a = (known, subst (λ (n : ℕ). IsSpot z (set_place z (machines_in t) (named t number) w) n s) h.slots (subst (λ (p : ℕ). IsSpot z p zone.slots s) (place_is w) a))
  placed w None a =
      record {
        long = long;
        machine = h.machine;
        wrong = λ ok. a (subst (λ (n : ℕ). SetOk z (set_at zone.place zone.slots w) n) (sym h.slots) (subst (λ (p : ℕ). SetOk z p (slots_in z (machines_in t))) (sym (place_is w)) ok.1));
      }

module _ (t z : List ℕ) (number : ℕ) (w : Which) (s : Spot) (k : Known t z number) (h : IsSpot z (set_place z (machines_in t) (named t number) w) (slots_in z (machines_in t)) s) where
  -- the regions of the set, slot by slot
  regions : regions_of t z number w ≡ table (slot z (set_place z (machines_in t) (named t number) w)) s.count
  regions = set_is z (machines_in t) (named t number) w k.machine ∙ regions_are h.readable h.count

  -- they are as many as the count
  pub counted : s.count ≡ length (regions_of t z number w)
  counted = sym (ap length regions ∙ table_length (slot z (set_place z (machines_in t) (named t number) w)) s.count)

  -- none stands behind them
  pub no_region_lem : (i : ℕ) → s.count ≤ i → length (regions_of t z number w) ≤ i
  no_region_lem i l = let e = counted in omega arith

  -- the slots that are counted are words of z
  pub reads : (i : ℕ) → i < s.count → s.at + 1 + 4 * i + 4 ≤ length z
  reads i l = let r = h.readable in let e = h.begins in let c = h.count in omega arith

  -- and each has its region
  pub is_region : (i : ℕ) (r : Region) → i < s.count → r ≡ region_of z (s.at + 1 + 4 * i) → IsRegion t z number w i r
  is_region i r l e =
      record {
        known = k;
        set = h.readable;
        within = let c = counted in omega arith;
        is = e ∙ ap (λ (x : ℕ). region_of z (x + 1 + 4 * i)) h.begins ∙ sym (ap (λ (x : List Region). get_or x i nothing) regions ∙ table_at (slot z (set_place z (machines_in t) (named t number) w)) s.count i l);
      }
