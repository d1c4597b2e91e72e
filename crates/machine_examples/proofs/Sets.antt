-- Machine 7's sets in the examples: its region goes in, out, and is met there. Assumes nothing.
use mathlib.Core.Path.{◌≡◌, refl, sym, ◌∙◌, ap, subst}
use mathlib.Core.Bool.{true, false}
use mathlib.Core.List.{List, [], ◌∷◌}
use Prim.Native.Nat.{ℕ, zero, suc, ◌+◌, ◌*◌}
use native.Mathlib.Nat.{not-suc-le-zero}
use native.Mathlib.Omega.{arith}
use lib.Dec.{lit<, lit≤}
use lib.ListN.{length, get_or}
use Rattle.std.specs.Prelude.{Ok, Err}
use Rattle.std.proofs.Common.{Some, None, Ok}
use Rattle.base.specs.Ranges.{Outside, Only}
use Rattle.address.specs.declared.Region.{Region}
use Rattle.region_words.specs.Words.{number_of, nothing, HasRegion}
use Rattle.config_table.specs.Holding.{GivenSays}
use Rattle.config_examples.proofs.Truck.{table, first, second, first_valid, long, machines_is, count_is, region_first}
use Rattle.set_model.specs.Sets.{same, meets, covers, any, find, enter, without, MapsLess}
use Rattle.set_model.proofs.Pages.{enter_maps, without_maps}
use Rattle.set_slots.specs.Slots.{regions_in, Lies, Readable}
use Rattle.set_claims.specs.declared.NotInserted.{NotInserted}
use Rattle.set_claims.specs.Claims.{Refused}
use Rattle.memory_set.specs.declared.NotMapped.{NotMapped}
use Rattle.memory_set.specs.Looks.{TranslateSays}
use Rattle.memory_set_changes.specs.declared.NotRemoved.{NotRemoved}
use Rattle.memory_set_changes.specs.Changes.{InsertSays, RemoveSays}
use Rattle.machine.specs.declared.Which.{Which}
use Rattle.zones.specs.Layout.{set_at}
use Rattle.hv_sets.specs.declared.Spot.{Spot}
use Rattle.hv_sets.specs.Asked.{IsSpot}
use Rattle.hv_sets.proofs.Laws.{spot_is}
use Rattle.machine_examples.proofs.Memories.{there, mapped, driven, zone, is_zone, is_here, regions_none, none_ok, regions_one, one_ok, has_none, drives_none, has_mapped, has_driven}

-- ---- where the sets are, and what machine 7 is given

abbrev pub spot : Which → Spot
spot w = record { index = 0; at = set_at 0 1 w; slots = 1 }

pub is_spot : (z : List ℕ) → length z ≡ 22 → get_or z 0 0 ≡ 1 → (w : Which) → IsSpot table z 7 w (spot w)
is_spot z l e w = spot_is table z 7 w zone (set_at 0 1 w) (is_here z l e, is_zone z l) refl

pub is_given : GivenSays table 0 first (Ok (Some 0))
is_given = (
  long,
  record {
    is = record { machine = rw machines_is (lit< tt); region = rw (count_is 0 (lit< tt)) (lit< tt); is = sym region_first };
    first = λ k l e. not-suc-le-zero l;
  },
)

-- machine 9's region is not machine 7's
other : second ≡ first → ⊥
other e = let h = ap (λ (r : Region). r.host) e in omega arith

pub not_given_lem : GivenSays table 0 second (Ok None)
not_given_lem = (long, rw machines_is (lit< tt), λ k l e. let p = rw (count_is 0 (lit< tt)) at l in let q : k ≡ 0 = omega arith in other (e ∙ (rw q region_first)))

-- ---- the region and the tests of it

is_same : same first first ≡ true
unfolding same number_of
is_same = refl

does_meet : meets first first ≡ true
unfolding meets
does_meet = refl

does_cover : covers 5 first ≡ true
unfolding covers
does_cover = refl

-- ---- a set without a region, z, and the same with machine 7's, z'

module _ (z z' : List ℕ) (at : ℕ) (e : get_or z at 0 ≡ 0) (h : HasRegion z (at + 1 + 4 * 0) nothing) (e' : get_or z' at 0 ≡ 1) (h' : HasRegion z' (at + 1 + 4 * 0) first)
    (lies : Lies z at 1) (lies' : Lies z' at 1) (only : Only z at (at + 1 + 4 * 1) z') where
  is_none : regions_in z at 1 ≡ []
  is_none = regions_none z at e h

  is_one : regions_in z' at 1 ≡ first ∷ []
  is_one = regions_one z' at e' h'

  empty : Readable z at 1
  empty = record { lies = lies; few = rw e (lit≤ tt) }

  filled : Readable z' at 1
  filled = record { lies = lies'; few = rw e' (lit≤ tt) }

  goes_in : InsertSays z at 1 first z' (Ok tt)
  goes_in =
      record {
        fitting = record { readable = empty; valid = first_valid; alone = rw is_none refl };
        room = rw e (lit< tt);
        became = record { only = only; is = is_one ∙ sym (ap (enter first) is_none); ok = λ s. one_ok z' at e' h' };
        maps = enter_maps first (regions_in z at 1);
      }

  finds : find (same first) (regions_in z' at 1) ≡ first
  finds = rw (is_one, is_same) refl

  listed : any (same first) (regions_in z' at 1) ≡ true
  listed = rw (is_one, is_same) refl

  goes_out : RemoveSays z' at 1 first z (Ok tt)
  goes_out =
      record {
        readable = filled;
        some = listed;
        is = sym finds;
        became = record { only = record { long = sym only.long; others = λ k o. sym (only.others k o) }; is = is_none ∙ sym (rw (is_one, is_same) refl); ok = λ s. none_ok z at e h };
        maps = λ s. subst (λ (r : Region). MapsLess (regions_in z' at 1) r (without (same first) (regions_in z' at 1))) finds (without_maps (same first) (regions_in z' at 1) s.ordered listed);
      }

  overlaps : Refused z' at 1 first NotInserted.Overlap
  overlaps = (filled, first_valid, rw (is_one, does_meet) refl)

  lists_none : Readable z at 1 × (any (same first) (regions_in z at 1) ≡ false)
  lists_none = (empty, rw is_none refl)

  reaches : TranslateSays z' at 1 5 (Ok 4101)
  reaches = record { readable = filled; covered = rw (is_one, does_cover) refl; is = rw (is_one, does_cover) refl }

  reaches_none : TranslateSays z at 1 5 (Err NotMapped.NoRegion)
  reaches_none = (empty, rw is_none refl)

-- ---- the processors' set

mapped_only : Only there 1 6 mapped
mapped_only = record { long = refl; others = others }
  where
    others : (k : ℕ) → Outside 1 6 k → get_or mapped k 0 ≡ get_or there k 0
    others zero o = refl
    others (suc zero) o = absurd (o (lit≤ tt) (lit< tt))
    others (suc (suc zero)) o = absurd (o (lit≤ tt) (lit< tt))
    others (suc (suc (suc zero))) o = absurd (o (lit≤ tt) (lit< tt))
    others (suc (suc (suc (suc zero)))) o = absurd (o (lit≤ tt) (lit< tt))
    others (suc (suc (suc (suc (suc zero))))) o = absurd (o (lit≤ tt) (lit< tt))
    others (suc (suc (suc (suc (suc (suc k)))))) o = refl

pub mapped_in : InsertSays there 1 1 first mapped (Ok tt)
mapped_in = goes_in there mapped 1 refl has_none refl has_mapped (lit≤ tt) (lit≤ tt) mapped_only

pub mapped_out : RemoveSays mapped 1 1 first there (Ok tt)
mapped_out = goes_out there mapped 1 refl has_none refl has_mapped (lit≤ tt) (lit≤ tt) mapped_only

pub mapped_overlaps : Refused mapped 1 1 first NotInserted.Overlap
mapped_overlaps = overlaps there mapped 1 refl has_none refl has_mapped (lit≤ tt) (lit≤ tt) mapped_only

pub mapped_none : Readable there 1 1 × (any (same first) (regions_in there 1 1) ≡ false)
mapped_none = lists_none there mapped 1 refl has_none refl has_mapped (lit≤ tt) (lit≤ tt) mapped_only

pub mapped_reaches : TranslateSays mapped 1 1 5 (Ok 4101)
mapped_reaches = reaches there mapped 1 refl has_none refl has_mapped (lit≤ tt) (lit≤ tt) mapped_only

-- ---- the devices' set

driven_only : Only there 6 11 driven
driven_only = record { long = refl; others = others }
  where
    others : (k : ℕ) → Outside 6 11 k → get_or driven k 0 ≡ get_or there k 0
    others zero o = refl
    others (suc zero) o = refl
    others (suc (suc zero)) o = refl
    others (suc (suc (suc zero))) o = refl
    others (suc (suc (suc (suc zero)))) o = refl
    others (suc (suc (suc (suc (suc zero))))) o = refl
    others (suc (suc (suc (suc (suc (suc zero)))))) o = absurd (o (lit≤ tt) (lit< tt))
    others (suc (suc (suc (suc (suc (suc (suc zero))))))) o = absurd (o (lit≤ tt) (lit< tt))
    others (suc (suc (suc (suc (suc (suc (suc (suc zero)))))))) o = absurd (o (lit≤ tt) (lit< tt))
    others (suc (suc (suc (suc (suc (suc (suc (suc (suc zero))))))))) o = absurd (o (lit≤ tt) (lit< tt))
    others (suc (suc (suc (suc (suc (suc (suc (suc (suc (suc zero)))))))))) o = absurd (o (lit≤ tt) (lit< tt))
    others (suc (suc (suc (suc (suc (suc (suc (suc (suc (suc (suc k))))))))))) o = refl

pub driven_in : InsertSays there 6 1 first driven (Ok tt)
driven_in = goes_in there driven 6 refl drives_none refl has_driven (lit≤ tt) (lit≤ tt) driven_only

pub driven_out : RemoveSays driven 6 1 first there (Ok tt)
driven_out = goes_out there driven 6 refl drives_none refl has_driven (lit≤ tt) (lit≤ tt) driven_only

pub driven_overlaps : Refused driven 6 1 first NotInserted.Overlap
driven_overlaps = overlaps there driven 6 refl drives_none refl has_driven (lit≤ tt) (lit≤ tt) driven_only

pub driven_none : Readable there 6 1 × (any (same first) (regions_in there 6 1) ≡ false)
driven_none = lists_none there driven 6 refl drives_none refl has_driven (lit≤ tt) (lit≤ tt) driven_only

pub driven_reaches_none : TranslateSays there 6 1 5 (Err NotMapped.NoRegion)
driven_reaches_none = reaches_none there driven 6 refl drives_none refl has_driven (lit≤ tt) (lit≤ tt) driven_only
