-- What came of the sequence of calls that the bytes s are: b are the memories before, b' after. Assumes nothing.
use Rattle.std.specs.Prelude.{◌≡◌, List, ℕ, ◌*◌, ◌/◌, ◌≤◌, length, Result, Ok, Err}
use Rattle.call_bytes.specs.Framing.{Breaks}
use Rattle.hv_state.specs.Memory.{Mem}
use Rattle.hv_calls.specs.Calling.{SpareFits}
use Rattle.run_items.specs.Running.{Transcript}
use Rattle.hv_run.specs.declared.NotRun.{NotRun}

-- there are words for the reply to each call, and for the answer to each request, that the bytes have room for
pub record Enough (s replies answers : List ℕ) : Type 0 where
  pub for_replies : 3 * (length s / 16) ≤ length replies
  pub for_answers : 2 * (length s / 33) ≤ length answers

-- n calls were served
pub record Sequence (s : List ℕ) (b b' : Mem) (replies answers replies' answers' : List ℕ) (n : ℕ) : Type 0 where
  pub transcript : Transcript s b b' replies answers replies' answers'
  pub count : length transcript.items ≡ n

-- what was done, or the first reason why nothing was, with no word changed
abbrev pub RanSays : List ℕ → List ℕ → List ℕ → List ℕ → List ℕ → List ℕ → Mem → Mem → List ℕ → List ℕ → Result ℕ NotRun → Type 0
RanSays s replies answers spareZones spareTree spareOwners b b' replies' answers' (Ok n) =
    Enough s replies answers × SpareFits b.zones b.tree b.owners spareZones spareTree spareOwners × Sequence s b b' replies answers replies' answers' n
RanSays s replies answers spareZones spareTree spareOwners b b' replies' answers' (Err (NotRun.Broken q)) =
    Enough s replies answers × SpareFits b.zones b.tree b.owners spareZones spareTree spareOwners
    × Breaks s 0 q × (b' ≡ b) × (replies' ≡ replies) × (answers' ≡ answers)
RanSays s replies answers spareZones spareTree spareOwners b b' replies' answers' (Err NotRun.FewWords) =
    (Enough s replies answers → ⊥) × (b' ≡ b) × (replies' ≡ replies) × (answers' ≡ answers)
RanSays s replies answers spareZones spareTree spareOwners b b' replies' answers' (Err NotRun.Spare) =
    Enough s replies answers × (SpareFits b.zones b.tree b.owners spareZones spareTree spareOwners → ⊥)
    × (b' ≡ b) × (replies' ≡ replies) × (answers' ≡ answers)
