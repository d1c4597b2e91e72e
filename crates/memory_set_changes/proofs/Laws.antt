-- What becomes of the set from which a region goes out. Assumes nothing.
use mathlib.Core.Path.{◌≡◌, subst}
use mathlib.Core.Bool.{Bool, true}
use mathlib.Core.List.{List}
use Prim.Native.Nat.{ℕ, ◌<◌}
use lib.ListN.{get_or}
use Rattle.base.specs.Search.{Stops}
use Rattle.address.specs.declared.Region.{Region}
use Rattle.set_model.specs.Sets.{same, any, find}
use Rattle.set_model.proofs.Tests.{same_is}
use Rattle.set_model.proofs.Lists.{find_passes}
use Rattle.set_model.proofs.Pages.{without_maps}
use Rattle.set_slots.specs.Slots.{regions_in, Readable, Fails}
use Rattle.set_slots.proofs.Found.{some_found}
use Rattle.set_shifts.specs.Shifts.{LeftOut}
use Rattle.memory_set_changes.specs.Changes.{WentOut}

-- a region went out that was found
pub went_out : {z z' : List ℕ} {at slots n p : ℕ} {r : Region} (t : Region → Bool) → Readable z at slots → n ≡ get_or z at 0 → Stops (Fails t z at) 0 n p → p < n → r ≡ find t (regions_in z at slots) → LeftOut z at p z' → WentOut t z at slots r z'
went_out {z} {z'} {at} {slots} {n} {p} {r} t d e s l g o =
    record {
      readable = d;
      some = some;
      is = g;
      became = o.became slots t d (subst (λ (k : ℕ). Stops (Fails t z at) 0 k p) e s);
      maps = λ ok. rw g (without_maps t (regions_in z at slots) ok.ordered some);
    }
  where
    some : any t (regions_in z at slots) ≡ true
    some = some_found t p d e s l

-- the region that is the same as r is r
pub same_found : {z : List ℕ} {at slots n p : ℕ} (r : Region) → Readable z at slots → n ≡ get_or z at 0 → Stops (Fails (same r) z at) 0 n p → p < n → r ≡ find (same r) (regions_in z at slots)
same_found {z} {at} {slots} {n} {p} r d e s l = same_is r (find (same r) (regions_in z at slots)) (find_passes (same r) (regions_in z at slots) (some_found (same r) p d e s l))
