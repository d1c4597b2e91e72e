-- From the bytes of the configuration and the bytes of any calls to who can reach which page: what holds of memories as long as they live.
--
-- They live (`Lives c d`) from the moment when `start` has accepted the configuration in the bytes c, and go on living whatever bytes `run` or
-- `serve` are given, whatever request a function serves, of any machines in any order, and whatever a machine writes into frames that it owns
-- (`Lives` has it, as `lives_started`, `lives_ran`, `lives_served`, `lives_requested` and `lives_written`). `plan_of d` is what the memories d hold of
-- the configuration, `decode d` the state that they mean: which machines are there, the regions of their sets, whose each frame is, and what stands
-- in it. What is served is the abstract machine's: `CallServed` says that the reply and the state afterwards are those of `call`. Assumes nothing.
use mathlib.Core.Path.{◌≡◌}
use mathlib.Core.Bool.{true}
use mathlib.Core.List.{List}
use Prim.Native.Nat.{ℕ, ◌/◌, ◌<◌}
use Rattle.owners.specs.States.{State.Free, State.Reserved}
use Rattle.config_bytes.specs.Fields.{config_of}
use Rattle.config_model.specs.Config.{ConfigOk}
use Rattle.config_view.specs.Table.{Table}
use Rattle.machine.specs.Step.{machine_of}
use Rattle.machine.specs.Lists.{Call, Reply}
use Rattle.machine.specs.Run.{Event, run}
use Rattle.machine.specs.Reach.{Way, Reach, SharedBy}
use Rattle.machine.specs.Parts.{Alike}
use Rattle.machine.specs.Own.{FreeAlike, calls_pool, only, replies, Quiet}
use Rattle.machine.proofs.Isolation.{Apart, Account}
use Rattle.machine.proofs.Whole.{GivenBack, wholes}
use Rattle.call_bytes.specs.Framing.{Item, Framed}
use Rattle.hv_state.specs.Memory.{Mem, config_in, plan_of, decode, Sound}
use Rattle.hv_state.specs.Serving.{CallServed, Undone}
use Rattle.std.specs.Prelude.{Result, Ok}
use Rattle.hv_run.specs.declared.NotRun.{NotRun}
use Rattle.hv_run.specs.Sequence.{RanSays}
use Rattle.hv_theorems.proofs.Theorems as theorems
use Rattle.hv_theorems.proofs.Theorems.{NeverStuck}
use Rattle.end_to_end.specs.Living.{AreEvents, Lives}
use Rattle.end_to_end.proofs.Lives.{happened, lives_ran}

module _ (c : List ℕ) (d : Mem) (l : Lives c d) where
  -- The configuration is the one in the bytes, it keeps its rules, and it never changes.
  pub configured : ConfigOk (config_of c) × Table (config_of c) l.begun.table × (plan_of d ≡ plan_of l.begun)
  configured = (l.started.right.ok, l.started.table, (theorems.reached l.begun l.events d l.becomes l.started.sound).plan)

  -- The memories are sound, and mean what the calls and writes made of the start's state.
  pub sound : Sound d
  sound = (theorems.reached l.begun l.events d l.becomes l.started.sound).sound

  pub means : decode d ≡ run (plan_of l.begun) (decode l.begun) l.events
  means = (theorems.reached l.begun l.events d l.becomes l.started.sound).state

  -- `isolated`: two machines reach a host page only by shared regions that the configuration lets coincide.
  pub isolated : (m m' page : ℕ) (x y : Way) → (m ≡ m' → ⊥) → Reach (plan_of d) (decode d) m page x → Reach (plan_of d) (decode d) m' page y → SharedBy m x m' y
  isolated = theorems.isolated l.begun l.events d l.started.sound l.becomes

  -- `monitor_apart`: every page of the allocator's region is the monitor's or that of exactly one machine, and no machine reaches the monitor's.
  pub monitor_apart : Apart (plan_of d) (decode d)
  monitor_apart = theorems.monitor_apart l.begun l.events d l.started.sound l.becomes

  -- `accounted`: every frame is free, reserved, or owned by one machine, which is there; and the reserved ones are those of the start.
  pub accounted : (k : ℕ) → Account (decode d) k
  accounted = theorems.accounted l.begun l.events d l.started.sound l.becomes

  pub reserved_stay : (k : ℕ) → ((decode l.begun).frame k ≡ Reserved → (decode d).frame k ≡ Reserved) × ((decode d).frame k ≡ Reserved → (decode l.begun).frame k ≡ Reserved)
  reserved_stay = theorems.reserved_stay l.begun l.events d l.started.sound l.becomes

  -- `clean`: every free frame is all 0.
  pub clean : (j : ℕ) → (decode d).frame (j / 512) ≡ Free → (decode d).word j ≡ 0
  clean = theorems.clean l.begun l.events d l.started.sound l.becomes

  -- `others_unchanged`: a call of one machine leaves every other machine's presence, sets, frames and contents.
  pub others_unchanged : (e : Mem) (number : ℕ) (q : Call) (r : Reply) → CallServed d number q e r → (m : ℕ) → (m ≡ machine_of (config_in d) number → ⊥) → Alike m (decode e) (decode d)
  others_unchanged e number q r = theorems.calls_unchanged d e number q r sound

  -- `refused_nothing`: what is not done changes nothing at all, no word and no byte.
  pub refused_nothing : (e : Mem) (number : ℕ) (q : Call) (r : Reply) → CallServed d number q e r → Undone r → e ≡ d
  refused_nothing e number q r v = theorems.undone_nothing d e number q r sound v

  -- `answers_own`: of two lives of one configuration in equally long memories that agree on the asker's part, and for calls of the pool on which
  -- frames are free, the replies agree, and the asker's parts afterwards.
  pub answers_own : (d' e e' : Mem) → Lives c d' → plan_of d' ≡ plan_of d → (number : ℕ) (q : Call) (r r' : Reply) → Alike (machine_of (config_in d) number) (decode d) (decode d') → (calls_pool q ≡ true → FreeAlike (decode d) (decode d')) → CallServed d number q e r → CallServed d' number q e' r' → (r ≡ r') × Alike (machine_of (config_in d) number) (decode e) (decode e')
  answers_own d' e e' l' p number q r r' h f v v' = theorems.replies_own d d' e e' number q r r' sound (theorems.reached l'.begun l'.events d' l'.becomes l'.started.sound).sound p h f v v'

  -- `purge`: for a machine that asks nothing of the pool, its replies in any run of the abstract machine from here on are those in the run without
  -- the other machines' events.
  pub purge : (m : ℕ) (xs : List Event) → Quiet (plan_of d) m xs → replies (plan_of d) m (decode d) xs ≡ replies (plan_of d) m (decode d) (only (plan_of d) m xs)
  purge = theorems.purge d sound

  -- `given_back`: removing every machine whole, in the abstract machine, gives the start's presence, sets and frames, every free frame all 0: nothing
  -- is ever lost.
  pub given_back : GivenBack (plan_of d) (run (plan_of d) (decode d) (wholes (plan_of d) (config_in d).machines))
  given_back = theorems.given_back d sound

  -- `never_stuck`: the abstract machine never refuses a machine that is there to give back what it owns, to take out what is in its sets, and to be
  -- removed whole.
  pub never_stuck : (number : ℕ) → machine_of (config_in d) number < (config_in d).machines → (decode d).present (machine_of (config_in d) number) ≡ true → NeverStuck d number
  never_stuck = theorems.never_stuck d sound

-- What a sequence of calls that was served means: the bytes s are items, the items are events, and the memories mean afterwards what the events
-- make of what they meant.
pub record Meant (s : List ℕ) (b d : Mem) : Type 0 where
  pub items : List Item
  pub framed : Framed s 0 items
  pub events : List Event
  pub are : AreEvents s items events
  pub state : decode d ≡ run (plan_of b) (decode b) events

pub run_means : (c s lentReplies lentAnswers spareZones spareTree spareOwners : List ℕ) (b d : Mem) (replies answers : List ℕ) (n : ℕ) → Lives c b → RanSays s lentReplies lentAnswers spareZones spareTree spareOwners b d replies answers (Ok n) → Meant s b d
run_means c s lentReplies lentAnswers spareZones spareTree spareOwners b d replies answers n l h =
    let t = h.2.transcript in
    let x = happened s lentReplies lentAnswers replies answers 0 0 t.items b d t.performed in
    record { items = t.items; framed = t.framed; events = x.events; are = x.are; state = (theorems.reached b x.events d x.becomes (sound c b l)).state }

-- From the contract of `run` to `isolated` in one step: whatever the bytes s are, and whatever `run` answers.
pub isolated_after_run : (c s lentReplies lentAnswers spareZones spareTree spareOwners : List ℕ) (b d : Mem) (replies answers : List ℕ) (r : Result ℕ NotRun) → Lives c b → RanSays s lentReplies lentAnswers spareZones spareTree spareOwners b d replies answers r → (m m' page : ℕ) (x y : Way) → (m ≡ m' → ⊥) → Reach (plan_of d) (decode d) m page x → Reach (plan_of d) (decode d) m' page y → SharedBy m x m' y
isolated_after_run c s lentReplies lentAnswers spareZones spareTree spareOwners b d replies answers r l h = isolated c d (lives_ran c s lentReplies lentAnswers spareZones spareTree spareOwners b d replies answers r l h)
