-- Whose list it is: t are the words of the table, tr the tree, o the owners' bytes and w the frames' words. Assumes nothing.
use Rattle.std.specs.Prelude.{◌≡◌, List, ℕ, ◌<◌, Result, Ok, Err}
use Rattle.config_view.specs.Table.{table_config}
use Rattle.owners.specs.States.{Matched}
use Rattle.contents.specs.Contents.{Backed}
use Rattle.machine.specs.Step.{machine_of}
use Rattle.hv_state.specs.Memory.{Sound}
use Rattle.hv_state.specs.Serving.{mem}
use Rattle.list_asker.specs.declared.Lister.{Lister}
use Rattle.zones.specs.declared.NotLocated.{NotLocated}

-- the lister is the machine that has the number, and the memories match
pub record IsLister (t tr o w : List ℕ) (number : ℕ) (l : Lister) : Type 0 where
  pub client : l.client ≡ machine_of (table_config t) number
  pub small : l.client < 64
  pub first : l.first ≡ (table_config t).pool.host
  pub matched : Matched tr o
  pub backed : Backed o w

-- whose list it is, or why it is nobody's that can be attempted
abbrev pub ListerSays : List ℕ → List ℕ → List ℕ → List ℕ → ℕ → Result Lister NotLocated → Type 0
ListerSays t tr o w number (Ok l) = IsLister t tr o w number l
ListerSays t tr o w number (Err NotLocated.NoMachine) = machine_of (table_config t) number ≡ (table_config t).machines
ListerSays t tr o w number (Err NotLocated.Corrupt) = (z : List ℕ) → Sound (mem t z tr o w) → ⊥
