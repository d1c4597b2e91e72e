-- Machines. Assumes nothing.
use mathlib.Core.Path.{◌≡◌, refl, sym, ◌∙◌, fun_ext}
use mathlib.Core.Bool.{true, false}
use Prim.Native.Nat.{ℕ}
use Rattle.base.proofs.Choices.{never}
use Rattle.address.specs.declared.Region.{Region}
use Rattle.address.specs.Pages.{Contains}
use Rattle.address.specs.Regions.{host_of}
use Rattle.address.proofs.Theorems.{stays_inside}
use Rattle.set_model.specs.Sets.{covers, any, find}
use Rattle.set_model.proofs.Tests.{covers_contains}
use Rattle.set_model.proofs.Lists.{find_in, find_passes, every_in}
use Rattle.machine.specs.declared.Which.{Which}
use Rattle.machine.specs.declared.Request.TheVariants.{AddZone}
use Rattle.machine.specs.State.{Plan, State}
use Rattle.machine.specs.Step.{absent}
use Rattle.machine.specs.Good.{given, Good}
use Rattle.machine.proofs.Frames.{not_mine}
use Rattle.original.specs.Terms.{nothing, insert, free_set, owned_set}

-- To add a machine that is not there inserts it, and changes no frame: it owns nothing, and the free frames are the same.
pub added_present : (s : State) (m : ℕ) → (absent s m AddZone).state.present ≡ insert s.present m
added_present s m = refl

pub added_owns_nothing : (p : Plan) (s : State) → Good p s → (m : ℕ) → s.present m ≡ false → owned_set (absent s m AddZone).state.frame m ≡ nothing
added_owns_nothing p s g m e = fun_ext (λ k. not_mine m (s.frame k) (λ f. never (sym (g.frames.owner m k f) ∙ e)))

pub added_free_set : (s : State) (m : ℕ) → free_set (absent s m AddZone).state.frame ≡ free_set s.frame
added_free_set s m = refl

-- a host address is in the host range of a region that the machine is given
pub record OfGiven (p : Plan) (m : ℕ) (w : Which) (h : ℕ) : Type 0 where
  pub region : Region
  pub is_given : given p.config m w region ≡ true
  pub inside : Contains region.host region.pages h

-- What a guest address is translated to is in the host range of a region that the machine is given.
pub translated_inside : (p : Plan) (s : State) → Good p s → (m : ℕ) (w : Which) (addr : ℕ) → any (covers addr) (s.set m w) ≡ true → OfGiven p m w (host_of (find (covers addr) (s.set m w)).guest (find (covers addr) (s.set m w)).host addr)
translated_inside p s g m w addr e =
    record {
      region = find (covers addr) (s.set m w);
      is_given = every_in (given p.config m w) (find (covers addr) (s.set m w)) (s.set m w) (find_in (covers addr) (s.set m w) e) (g.sets m w).whole;
      inside = stays_inside (covers_contains addr (find (covers addr) (s.set m w)) (find_passes (covers addr) (s.set m w) e));
    }
