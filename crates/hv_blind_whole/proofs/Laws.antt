-- A machine is removed whole: its request is served, where the frames are all 0. Assumes nothing.
use mathlib.Core.Path.{refl, sym, ◌∙◌}
use mathlib.Core.List.{List}
use Rattle.std.specs.Prelude.{Ok, Err}
use Prim.Native.Nat.{ℕ, ◌+◌, ◌*◌, ◌<◌}
use native.Mathlib.Omega.{arith}
use Rattle.base.specs.Ranges.{Emptied}
use Rattle.owners.specs.Writes.{Kept}
use Rattle.owners.proofs.States.{client_not_reserved}
use Rattle.owner_passes.specs.Passes as passes
use Rattle.contents.specs.Contents.{Clean}
use Rattle.contents.proofs.Cleaning.{backed_still}
use Rattle.allocator_pool.specs.declared.BadClient.{BadClient}
use Rattle.allocator_pool.specs.Changes.{ReleaseSays}
use Rattle.machine.specs.declared.Request.TheVariants.{RemoveZoneWhole}
use Rattle.machine.specs.declared.Answer.{Answer}
use Rattle.hv_state.specs.Serving.{Served, mem}
use Rattle.hv_asker.specs.declared.Client.{Client}
use Rattle.hv_asker.specs.Asking.{IsClient}
use Rattle.hv_blind.specs.Blind.{Blank}
use Rattle.hv_blind.proofs.Blank.{where_sound}
use Rattle.hv_whole.proofs.Laws as seen

-- a client's frames that are all 0 are released: the memories stay clean
blank_released : (base : ℕ) (t o w : List ℕ) (m : ℕ) (t' o' : List ℕ) → Blank w → passes.Released t o m t' o' → Clean base t o w → Clean base t' o' w
blank_released base t o w m t' o' blank r q = record {
  accounted = r.accounted base q.accounted;
  backed = backed_still o w o' w r.bytes refl q.backed;
  beyond = λ k l. r.others k (λ e. client_not_reserved m (sym e ∙ q.beyond k l)) ∙ q.beyond k l;
  zero = λ k e i h. blank (512 * k + i);
}

module _ (t z tr o w : List ℕ) (blank : Blank w) (number : ℕ) (c : Client) (is : IsClient t z number c) where
  -- the memories are not in order, and stay
  left : (tr' o' : List ℕ) → Kept tr o tr' o' → (c.client < 64 → Clean c.base tr o w → ⊥) → Served (mem t z tr o w) number RemoveZoneWhole (mem t z tr' o' w) Answer.Corrupt
  left tr' o' k d = seen.not_freed t z tr o w number c is tr' o' w (record { tree = k.words; bytes = k.bytes; words = refl }, d)

  pub unreleased : (why : BadClient) (tr' o' : List ℕ) → ReleaseSays c.base tr o c.client tr' o' (Err why) → Served (mem t z tr o w) number RemoveZoneWhole (mem t z tr' o' w) Answer.Corrupt
  unreleased BadClient.NoClient tr' o' d = left tr' o' d.0 (λ l k. omega (arith, l, d.2))
  unreleased (BadClient.Unfit why) tr' o' d = left tr' o' d.0 (λ l k. seen.unfit_not c.base tr o w why d.1 k)

  pub whole : (z' tr' o' : List ℕ) → ReleaseSays c.base tr o c.client tr' o' (Ok tt) → Emptied z c.place (c.place + (3 + 8 * c.slots)) z' → Served (mem t z tr o w) number RemoveZoneWhole (mem t z' tr' o' w) Answer.Done
  whole z' tr' o' d e =
      where_sound (mem t z tr o w) number RemoveZoneWhole (mem t z' tr' o' w) Answer.Done (λ r. absurd r)
      (λ s. seen.whole_served t z tr o w number c is tr' o' w z'
      (record {
        backed = s.frames.backed;
        known = d.0;
        inside = λ k l x. client_not_reserved c.client (sym x ∙ s.frames.beyond k l);
        released = d.1;
        wiped = record { long = refl; mine = λ k l x i h. blank (512 * k + i); others = λ k x i h. refl };
        clean = blank_released c.base tr o w c.client tr' o' blank d.1;
      })
      e)
