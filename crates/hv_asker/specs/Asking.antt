-- Who asks: t are the words of the table, and z those of the machines. Assumes nothing.
use Rattle.std.specs.Prelude.{◌≡◌, true, false, List, ℕ, ◌+◌, ◌≤◌, ◌<◌, length, Result, Ok, Err}
use Rattle.config_view.specs.Table.{table_config}
use Rattle.machine.specs.declared.Reason.{Reason}
use Rattle.machine.specs.declared.Refusal.{Refusal}
use Rattle.machine.specs.Step.{machine_of}
use Rattle.zones.specs.declared.Zone.{Zone}
use Rattle.zones.specs.Layout.{stride, slots_in, place_of, Flagged, IsZone}
use Rattle.hv_state.specs.Memory.{present_in}
use Rattle.hv_asker.specs.declared.Client.{Client}

-- the machine that has the number is there
pub record Here (t z : List ℕ) (number : ℕ) : Type 0 where
  pub machine : machine_of (table_config t) number < (table_config t).machines
  pub present : present_in z (table_config t).machines (machine_of (table_config t) number) ≡ true

-- it is not there
pub record Away (t z : List ℕ) (number : ℕ) : Type 0 where
  pub machine : machine_of (table_config t) number < (table_config t).machines
  pub absent : present_in z (table_config t).machines (machine_of (table_config t) number) ≡ false

-- no machine has the number
pub record Nobody (t : List ℕ) (number : ℕ) : Type 0 where
  pub none : machine_of (table_config t) number ≡ (table_config t).machines

-- the table or the machines' words are not in order
abbrev pub Disordered : List ℕ → List ℕ → Type 0
Disordered t z = length t ≡ 8325 → Flagged z (table_config t).machines → ⊥

-- why nobody asks
pub data Unasked (t z : List ℕ) (number : ℕ) : Reason → Type 0 where
  IsNobody : Nobody t number → Unasked t z number Reason.NoMachine
  IsAway : Away t z number → Unasked t z number Reason.NotPresent

-- why a request is refused before it is looked at
abbrev pub Unheard : List ℕ → List ℕ → ℕ → Refusal → Type 0
Unheard t z number (Refusal.No why) = Unasked t z number why
Unheard t z number Refusal.Corrupt = Disordered t z

-- the machine that asks
abbrev pub AskerSays : List ℕ → List ℕ → ℕ → Result Zone Refusal → Type 0
AskerSays t z number (Ok zone) = Here t z number × IsZone z (table_config t).machines (machine_of (table_config t) number) zone
AskerSays t z number (Err why) = Unheard t z number why

-- the client is the machine that has the number, the frames begin where the allocator's region does, and the machine's words lie at the place
pub record IsClient (t z : List ℕ) (number : ℕ) (c : Client) : Type 0 where
  pub here : Here t z number
  pub client : c.client ≡ machine_of (table_config t) number
  pub base : c.base ≡ (table_config t).pool.host
  pub place : c.place ≡ place_of (slots_in z (table_config t).machines) (machine_of (table_config t) number)
  pub slots : c.slots ≡ slots_in z (table_config t).machines
  pub inside : place_of (slots_in z (table_config t).machines) (machine_of (table_config t) number) + stride (slots_in z (table_config t).machines) ≤ length z

-- the client that asks
abbrev pub ClientSays : List ℕ → List ℕ → ℕ → Result Client Refusal → Type 0
ClientSays t z number (Ok c) = IsClient t z number c
ClientSays t z number (Err why) = Unheard t z number why
