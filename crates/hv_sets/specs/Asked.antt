-- The set that a request is about: t are the words of the table, and z those of the machines. Assumes nothing.
use Rattle.std.specs.Prelude.{◌≡◌, List, ℕ, Result, Ok, Err}
use Rattle.config_view.specs.Table.{table_config}
use Rattle.set_claims.specs.declared.NotInserted.{NotInserted}
use Rattle.machine.specs.declared.Which.{Which}
use Rattle.machine.specs.declared.Reason.{Reason}
use Rattle.machine.specs.declared.Refusal.{Refusal}
use Rattle.machine.specs.declared.Answer.{Answer}
use Rattle.machine.specs.Step.{machine_of}
use Rattle.zones.specs.Layout.{slots_in}
use Rattle.set_slots.specs.Slots.{Lies}
use Rattle.hv_state.specs.Memory.{set_place}
use Rattle.hv_asker.specs.Asking.{Here, Unheard}
use Rattle.hv_sets.specs.declared.Spot.{Spot}

-- the spot is that of a set of the machine that has the number, which is there
pub record IsSpot (t z : List ℕ) (number : ℕ) (w : Which) (spot : Spot) : Type 0 where
  pub here : Here t z number
  pub index : spot.index ≡ machine_of (table_config t) number
  pub at : spot.at ≡ set_place z (table_config t).machines (machine_of (table_config t) number) w
  pub slots : spot.slots ≡ slots_in z (table_config t).machines
  pub lies : Lies z (set_place z (table_config t).machines (machine_of (table_config t) number) w) (slots_in z (table_config t).machines)

-- the set that is asked about, or why there is none
abbrev pub AskedSays : List ℕ → List ℕ → ℕ → Which → Result Spot Refusal → Type 0
AskedSays t z number w (Ok spot) = IsSpot t z number w spot
AskedSays t z number w (Err why) = Unheard t z number why

-- why a region does not go in
abbrev pub of_not_inserted : NotInserted → Answer
of_not_inserted (NotInserted.Bad why) = Answer.Corrupt
of_not_inserted (NotInserted.NotValid fault) = Answer.Corrupt
of_not_inserted NotInserted.Overlap = Answer.No Reason.Overlap
of_not_inserted NotInserted.NoRoom = Answer.No Reason.NoRoom
