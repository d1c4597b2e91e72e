-- What is replied to the call that the bytes s are: b are the memories before, b' after. Assumes nothing.
use Rattle.std.specs.Prelude.{◌≡◌, List, ℕ, ◌*◌, ◌/◌, ◌≤◌, ◌<◌, length, Result, Ok, Err}
use Rattle.base.specs.Ranges.{Only}
use Rattle.hv_state.specs.Memory.{Mem}
use Rattle.hv_calls.specs.Calling.{SpareFits, answer_words, ReplySays}
use Rattle.hv_calls.specs.declared.Replied.{Replied}
use Rattle.hv_serve.specs.declared.NotServed.{NotServed}

-- how many words the answers to a call need
abbrev pub words_for : List ℕ → ℕ
words_for s = 2 * (length s / 33)

-- the reply, or the first reason why the call was not looked at; no word for answers changes but those of a list's members
abbrev pub CalledSays : List ℕ → List ℕ → List ℕ → List ℕ → List ℕ → Mem → ℕ → Mem → List ℕ → Result Replied NotServed → Type 0
CalledSays s buffer spareZones spareTree spareOwners b number b' buffer' (Ok r) =
    (words_for s ≤ length buffer) × SpareFits b.zones b.tree b.owners spareZones spareTree spareOwners
    × ReplySays s 0 (length s) b number b' buffer' 0 r × Only buffer 0 (answer_words (length s) r) buffer'
CalledSays s buffer spareZones spareTree spareOwners b number b' buffer' (Err NotServed.FewWords) =
    (length buffer < words_for s) × (b' ≡ b) × (buffer' ≡ buffer)
CalledSays s buffer spareZones spareTree spareOwners b number b' buffer' (Err NotServed.Spare) =
    (words_for s ≤ length buffer) × (SpareFits b.zones b.tree b.owners spareZones spareTree spareOwners → ⊥) × (b' ≡ b) × (buffer' ≡ buffer)
