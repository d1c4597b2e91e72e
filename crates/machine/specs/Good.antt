-- What holds of every state that is reached. Nothing here speaks of two machines. Assumes nothing.
use Rattle.std.specs.Prelude.{◌≡◌, Bool, true, false, List, [], ℕ, ◌/◌, ◌≤◌, ◌<◌}
use Rattle.address.specs.declared.Region.{Region}
use Rattle.config_model.specs.Config.{Config, ConfigOk}
use Rattle.set_model.specs.Sets.{same, any, Every, Ordered}
use Rattle.owners.specs.States as frames
use Rattle.owners.specs.States.{State.Free, State.Reserved, State.Owned}
use Rattle.machine.specs.declared.Which.{Which}
use Rattle.machine.specs.State.{Plan, State}
use Rattle.machine.specs.Step.{givens}

-- the configuration is right, each set has room for what its machine is given, and the usable frames are the allocator's region's
pub record PlanOk (p : Plan) : Type 0 where
  pub config : ConfigOk p.config
  pub room : (m : ℕ) → m < p.config.machines → p.config.count m ≤ p.slots
  pub pages : p.usable ≤ p.config.pool.pages
  pub frames : p.config.pool.pages ≤ p.frames

-- the configuration gives machine m the region for a set
abbrev pub given : Config → ℕ → Which → Region → Bool
given c m w r = any (same r) (givens c m w)

-- a set of machine m is in order, has only regions that the machine is given, and is empty where the machine is not there
pub record SetGood (p : Plan) (here : Bool) (m : ℕ) (w : Which) (l : List Region) : Type 0 where
  pub ordered : Ordered l
  pub whole : Every (given p.config m w) l
  pub empty : here ≡ false → l ≡ []

-- the frames: exactly those from `usable` on are reserved, and who owns one is there
pub record FramesGood (p : Plan) (here : ℕ → Bool) (f : ℕ → frames.State) : Type 0 where
  pub reserved : (k : ℕ) → p.usable ≤ k → f k ≡ Reserved
  pub others : (k : ℕ) → k < p.usable → f k ≡ Reserved → ⊥
  pub owner : (m k : ℕ) → f k ≡ Owned m → here m ≡ true

-- every free frame is cleared
abbrev pub Cleared : (ℕ → frames.State) → (ℕ → ℕ) → Type 0
Cleared f word = (j : ℕ) → f (j / 512) ≡ Free → word j ≡ 0

pub record Good (p : Plan) (s : State) : Type 0 where
  pub plan : PlanOk p
  pub known : (m : ℕ) → s.present m ≡ true → m < p.config.machines
  pub sets : (m : ℕ) (w : Which) → SetGood p (s.present m) m w (s.set m w)
  pub frames : FramesGood p s.present s.frame
  pub cleared : Cleared s.frame s.word
