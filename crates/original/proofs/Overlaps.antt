-- Regions that overlap, and sets of which one does. Assumes nothing.
use mathlib.Core.Path.{◌≡◌, sym, ◌∙◌}
use mathlib.Core.Bool.{true}
use mathlib.Core.List.{List}
use Prim.Native.Nat.{◌*◌}
use Rattle.base.proofs.Choices.{never}
use Rattle.address.specs.declared.Region.{Region}
use Rattle.address.specs.Regions.{Valid}
use Rattle.address.proofs.Theorems.{share_mutual}
use Rattle.set_model.specs.Sets.{meets, any, find, In, Ordered}
use Rattle.set_model.proofs.Tests.{meets_share, share_meets}
use Rattle.set_model.proofs.Lists.{in_any, find_in, find_passes}
use Rattle.original.specs.Terms.{Overlap}
use Rattle.original.proofs.Addresses.{share_overlaps, overlaps_share}
use Rattle.original.proofs.Sets.{in_valid, no_two_meet}

-- a region is valid
abbrev pub ValidRegion : Region → Type 0
ValidRegion r = Valid r.guest r.host r.pages

-- `spec_overlaps_vmem`: the guest ranges of two regions overlap
abbrev pub OverlapsVmem : Region → Region → Type 0
OverlapsVmem r q = Overlap r.guest (4096 * r.pages) q.guest (4096 * q.pages)

-- Valid regions have a guest page in common exactly if they overlap, and then it does not matter which is named first.
module _ (r q : Region) (v : ValidRegion r) (w : ValidRegion q) where
  pub meets_overlaps : meets r q ≡ true → OverlapsVmem r q
  meets_overlaps e = share_overlaps v.on.guest_start w.on.guest_start (meets_share r q e)

  pub overlaps_meets : OverlapsVmem r q → meets r q ≡ true
  overlaps_meets o = share_meets r q (overlaps_share v.on.guest_start w.on.guest_start v.on.some w.on.some o)

  pub overlaps_turn : OverlapsVmem r q → OverlapsVmem q r
  overlaps_turn o = share_overlaps w.on.guest_start v.on.guest_start (share_mutual (overlaps_share v.on.guest_start w.on.guest_start v.on.some w.on.some o))

-- No two regions of a set in order overlap.
pub no_two_overlap : (r q : Region) (l : List Region) → Ordered l → In r l → In q l → (r ≡ q → ⊥) → OverlapsVmem r q → ⊥
no_two_overlap r q l o i j d x = never (sym (overlaps_meets r q (in_valid r l i o) (in_valid q l j o) x) ∙ no_two_meet r q l o i j d)

-- `overlaps_vmem` of a set: one of its regions overlaps r
pub record OneOverlaps (l : List Region) (r : Region) : Type 0 where
  pub region : Region
  pub has : In region l
  pub overlaps : OverlapsVmem region r

-- The test of a set in order with a valid region is exactly that.
module _ (l : List Region) (r : Region) (o : Ordered l) (v : ValidRegion r) where
  pub any_overlaps : any (meets r) l ≡ true → OneOverlaps l r
  any_overlaps e =
      let q = find (meets r) l in
      let i = find_in (meets r) l e in
      record { region = q; has = i; overlaps = overlaps_turn r q v (in_valid q l i o) (meets_overlaps r q v (in_valid q l i o) (find_passes (meets r) l e)) }

  pub overlaps_any : OneOverlaps l r → any (meets r) l ≡ true
  overlaps_any x =
      let w = in_valid x.region l x.has o in
      in_any (meets r) x.region l x.has (overlaps_meets r x.region v w (overlaps_turn x.region r w v x.overlaps))
