-- The five memories and what they mean, whatever they hold. `Sound` says when they are in order. Assumes nothing.
use Rattle.std.specs.Prelude.{◌≡◌, Bool, List, [], ℕ, ◌<◌, eqb, ltb, length, get_or}
use Rattle.base.specs.Choices.{pick, both}
use Rattle.address.specs.declared.Region.{Region}
use Rattle.config_model.specs.Config.{Config}
use Rattle.config_view.specs.Table.{table_config}
use Rattle.config.specs.Tables.{Writable}
use Rattle.set_slots.specs.Slots.{regions_in, SetOk}
use Rattle.bitmap_tree.specs.Tree.{cap}
use Rattle.owners.specs.States.{state}
use Rattle.contents.specs.Contents.{frames_in, Clean}
use Rattle.machine.specs.declared.Which.{Which}
use Rattle.machine.specs.State.{Plan, State}
use Rattle.machine.specs.Good.{Good}
use Rattle.zones.specs.Layout.{slots_in, place_of, set_at, Flagged}

-- the memories: the table of the configuration, the machines' words, the tree, the owners' bytes, and the frames' words
pub record Mem : Type 0 where
  pub table : List ℕ
  pub zones : List ℕ
  pub tree : List ℕ
  pub owners : List ℕ
  pub words : List ℕ

-- the configuration
abbrev pub config_in : Mem → Config
config_in b = table_config b.table

-- where the allocator's frames begin
abbrev pub base_in : Mem → ℕ
base_in b = (config_in b).pool.host

-- the slots of each set
abbrev pub slots_of : Mem → ℕ
slots_of b = slots_in b.zones (config_in b).machines

-- what is fixed
abbrev pub plan_of : Mem → Plan
plan_of b = record { config = config_in b; slots = slots_of b; frames = cap b.tree; usable = frames_in b.words }

-- machine m of n is there
unfoldable pub present_in : List ℕ → ℕ → ℕ → Bool
present_in z n m = both (ltb m n) (eqb (get_or z (place_of (slots_in z n) m) 0) 1)

-- where a set of machine m of n begins
abbrev pub set_place : List ℕ → ℕ → ℕ → Which → ℕ
set_place z n m w = set_at (place_of (slots_in z n) m) (slots_in z n) w

-- the regions of a set of machine m of n
unfoldable pub set_in : List ℕ → ℕ → ℕ → Which → List Region
set_in z n m w = pick (ltb m n) (regions_in z (set_place z n m w) (slots_in z n)) []

-- the state that the memories mean
abbrev pub decode : Mem → State
decode b =
    record {
      present = present_in b.zones (config_in b).machines;
      set = set_in b.zones (config_in b).machines;
      frame = state b.tree b.owners;
      word = λ j. get_or b.words j 0;
    }

-- the machines' words are in order: each machine is there or not, and every set is in order
pub record ZonesOk (z : List ℕ) (n : ℕ) : Type 0 where
  pub flagged : Flagged z n
  pub sets : (m : ℕ) → m < n → (w : Which) → SetOk z (set_place z n m w) (slots_in z n)

-- the memories are in order: each of them, and the state that they mean
pub record Sound (b : Mem) : Type 0 where
  pub table : Writable b.table
  pub zones : ZonesOk b.zones (config_in b).machines
  pub frames : Clean (base_in b) b.tree b.owners b.words
  pub good : Good (plan_of b) (decode b)
