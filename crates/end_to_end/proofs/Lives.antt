-- Memories live by being started, and go on living whatever is served and written. Assumes nothing.
use mathlib.Core.Path.{◌≡◌, sym, subst}
use mathlib.Core.Bool.{true}
use mathlib.Core.List.{List, [], ◌∷◌, ◌++◌}
use Prim.Native.Nat.{ℕ, ◌+◌, ◌*◌, ◌/◌}
use Rattle.std.proofs.Common.{Ok}
use Rattle.owners.specs.States.{State.Owned}
use Rattle.machine.specs.declared.Request.{Request}
use Rattle.machine.specs.declared.Answer.{Answer}
use Rattle.machine.specs.Lists.{Call, Call.One, Reply, Reply.Answered}
use Rattle.machine.specs.Run.{Event, Event.Asks}
use Rattle.call_bytes.specs.Framing.{Item}
use Rattle.hv_state.specs.Memory.{Mem, decode}
use Rattle.hv_state.specs.Serving.{Served, CallServed}
use Rattle.hv_state.proofs.Serving.{one_served}
use Rattle.hv_calls.specs.declared.Replied.{Replied}
use Rattle.hv_calls.specs.Calling.{IsCall, ReplySays}
use Rattle.std.specs.Prelude.{Result, Ok, Err}
use Rattle.hv_serve.specs.declared.NotServed.{NotServed}
use Rattle.hv_serve.specs.Called.{CalledSays}
use Rattle.run_items.specs.Running.{Performed, Performed.Over, Performed.Next}
use Rattle.hv_run.specs.declared.NotRun.{NotRun}
use Rattle.hv_run.specs.Sequence.{RanSays}
use Rattle.hv_start.specs.Starting.{StartSays}
use Rattle.hv_theorems.specs.Happening.{Becomes, wrote}
use Rattle.end_to_end.specs.Living.{AreEvents, Lives}

-- ---- one thing after the other

becomes_then : (a : Mem) (xs : List Event) (b : Mem) (ys : List Event) (d : Mem) → Becomes a xs b → Becomes b ys d → Becomes a (xs ++ ys) d
becomes_then a xs b ys d (Becomes.Stays _) t = t
becomes_then a xs b ys d (Becomes.Serves _ c _ rest number q r v more) t = Becomes.Serves a c d (rest ++ ys) number q r v (becomes_then c rest b ys d more t)
becomes_then a xs b ys d (Becomes.Writes _ _ rest m j v here owns more) t = Becomes.Writes a d (rest ++ ys) m j v here owns (becomes_then (wrote a j v) rest b ys d more t)

-- what lived goes on living
goes_on : {s : List ℕ} {b d : Mem} (xs : List Event) → Lives s b → Becomes b xs d → Lives s d
goes_on {s} {b} {d} xs l t = record { lent = l.lent; begun = l.begun; started = l.started; events = l.events ++ xs; becomes = becomes_then l.begun l.events b xs d l.becomes t }

one_call : {s : List ℕ} {b d : Mem} (number : ℕ) (c : Call) (r : Reply) → Lives s b → CallServed b number c d r → Lives s d
one_call {s} {b} {d} number c r l v = goes_on (Asks number c ∷ []) l (Becomes.Serves b d d [] number c r v (Becomes.Stays d))

stays : {s : List ℕ} {b d : Mem} → Lives s b → d ≡ b → Lives s d
stays {s} l e = subst (Lives s) (sym e) l

-- ---- the functions

-- `start` gives life.
pub lives_started : (s : List ℕ) (b d : Mem) → StartSays s b d (Ok tt) → Lives s d
lives_started s b d w = record { lent = b; begun = d; started = w; events = []; becomes = Becomes.Stays d }

-- what one call makes
replied : {c : List ℕ} {b d : Mem} (s : List ℕ) (from len number at : ℕ) (answers : List ℕ) (said : Replied) → Lives c b → ReplySays s from len b number d answers at said → Lives c d
replied s from len number at answers (Replied.Answered a) l h = one_call number _ _ l h.1
replied s from len number at answers Replied.Done l h = one_call number _ _ l h.1.served
replied s from len number at answers (Replied.Stopped i a) l h = one_call number _ _ l h.1
replied s from len number at answers (Replied.Malformed i) l h = stays l h.1

-- A request by its own function keeps it, whatever it is answered.
pub lives_requested : (c : List ℕ) (b : Mem) (number : ℕ) (q : Request) (d : Mem) (a : Answer) → Lives c b → Served b number q d a → Lives c d
lives_requested c b number q d a l v = one_call number (One q) (Answered a) l (one_served b number q d a v)

-- `serve` keeps it, whatever it replies.
pub lives_served : (c s answers spareZones spareTree spareOwners : List ℕ) (b : Mem) (number : ℕ) (d : Mem) (answers' : List ℕ) (r : Result Replied NotServed) → Lives c b → CalledSays s answers spareZones spareTree spareOwners b number d answers' r → Lives c d
lives_served c s answers spareZones spareTree spareOwners b number d answers' (Ok said) l h = replied s 0 _ number 0 answers' said l h.2
lives_served c s answers spareZones spareTree spareOwners b number d answers' (Err NotServed.FewWords) l h = stays l h.1
lives_served c s answers spareZones spareTree spareOwners b number d answers' (Err NotServed.Spare) l h = stays l h.2

-- what happened by a sequence of calls
pub record Happened (s : List ℕ) (items : List Item) (b d : Mem) : Type 0 where
  pub events : List Event
  pub are : AreEvents s items events
  pub becomes : Becomes b events d

pub happened : (s replies₀ answers₀ replies answers : List ℕ) (r at : ℕ) (items : List Item) (b d : Mem) → Performed s replies₀ answers₀ replies answers r at items b d → Happened s items b d
happened s replies₀ answers₀ replies answers r at items b d (Over kr ka) = record { events = []; are = AreEvents.None; becomes = Becomes.Stays b }
happened s replies₀ answers₀ replies answers r at items b d (Next {items = rest} {c = c} item said says w k more) = go said says (happened s replies₀ answers₀ replies answers (r + 3) (at + 2 * (item.len / 33)) rest c d more)
  where
    called : (q : Call) (v : Reply) → IsCall s item.from item.len q → CallServed b item.number q c v → Happened s rest c d → Happened s (item ∷ rest) b d
    called q v i h t = record { events = Asks item.number q ∷ t.events; are = AreEvents.Called item q i t.are; becomes = Becomes.Serves b c d t.events item.number q v h t.becomes }

    go : (said : Replied) → ReplySays s item.from item.len b item.number c answers at said → Happened s rest c d → Happened s (item ∷ rest) b d
    go (Replied.Answered a) h t = called _ _ (IsCall.IsOne h.0) h.1 t
    go Replied.Done h t = called _ _ (IsCall.IsList h.0) h.1.served t
    go (Replied.Stopped i a) h t = called _ _ (IsCall.IsList h.0) h.1 t
    go (Replied.Malformed i) h t = record { events = t.events; are = AreEvents.Malformed item i h.0 t.are; becomes = subst (λ (x : Mem). Becomes x t.events d) h.1 t.becomes }

-- `run` keeps it, whatever the bytes are.
pub lives_ran : (c s replies answers spareZones spareTree spareOwners : List ℕ) (b d : Mem) (replies' answers' : List ℕ) (r : Result ℕ NotRun) → Lives c b → RanSays s replies answers spareZones spareTree spareOwners b d replies' answers' r → Lives c d
lives_ran c s replies answers spareZones spareTree spareOwners b d replies' answers' (Ok n) l h =
    let t = h.2.transcript in
    let x = happened s replies answers replies' answers' 0 0 t.items b d t.performed in
    goes_on x.events l x.becomes
lives_ran c s replies answers spareZones spareTree spareOwners b d replies' answers' (Err (NotRun.Broken q)) l h = stays l h.3
lives_ran c s replies answers spareZones spareTree spareOwners b d replies' answers' (Err NotRun.FewWords) l h = stays l h.1
lives_ran c s replies answers spareZones spareTree spareOwners b d replies' answers' (Err NotRun.Spare) l h = stays l h.2

-- And so does what a machine that is there writes into a frame that it owns.
pub lives_written : (c : List ℕ) (b : Mem) (m j v : ℕ) → Lives c b → (decode b).present m ≡ true → (decode b).frame (j / 512) ≡ Owned m → Lives c (wrote b j v)
lives_written c b m j v l here owns = goes_on (Event.Writes m j v ∷ []) l (Becomes.Writes b (wrote b j v) [] m j v here owns (Becomes.Stays (wrote b j v)))
