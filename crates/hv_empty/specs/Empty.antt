-- Whether a machine is empty. Assumes nothing.
use Rattle.std.specs.Prelude.{◌≡◌, Bool, true, false, List, ℕ, ◌<◌, Result, Ok, Err}
use Rattle.base.specs.Choices.{both}
use Rattle.set_model.specs.Sets.{none}
use Rattle.set_slots.specs.Slots.{regions_in, SetOk}
use Rattle.bitmap_tree.specs.Tree.{cap}
use Rattle.owners.specs.States.{State.Owned, state, Matched}
use Rattle.machine.specs.declared.Which.{Which}
use Rattle.machine.specs.declared.Which.TheVariants.{Processors, Devices}
use Rattle.zones.specs.Layout.{set_at}
use Rattle.hv_empty.specs.declared.Corrupt.{Corrupt}

-- a set has no region
abbrev pub bare : List ℕ → ℕ → ℕ → Which → Bool
bare z place slots w = none (regions_in z (set_at place slots w) slots)

-- whether neither set has a region
abbrev pub RegionsSay : List ℕ → ℕ → ℕ → Result Bool Corrupt → Type 0
RegionsSay z place slots (Ok b) = both (bare z place slots Processors) (bare z place slots Devices) ≡ b
RegionsSay z place slots (Err _) = ((w : Which) → SetOk z (set_at place slots w) slots) → ⊥

-- the client c owns frame k
pub record Owns (t o : List ℕ) (c k : ℕ) : Type 0 where
  pub within : k < cap t
  pub is : state t o k ≡ Owned c

-- whether the client c owns no frame
abbrev pub FramesSay : List ℕ → List ℕ → ℕ → Result Bool Corrupt → Type 0
FramesSay t o c (Ok true) = (k : ℕ) → state t o k ≡ Owned c → ⊥
FramesSay t o c (Ok false) = (k : ℕ) × Owns t o c k
FramesSay t o c (Err _) = Matched t o → ⊥
