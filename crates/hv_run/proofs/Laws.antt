-- The calls that were served are those that the bytes are. Assumes nothing.
use mathlib.Core.Path.{◌∙◌, ap}
use mathlib.Core.List.{List}
use Prim.Native.Nat.{ℕ}
use lib.ListN.{length}
use Rattle.call_bytes.specs.Framing.{Item, Items}
use Rattle.call_bytes.proofs.Theorems.{framed_once}
use Rattle.hv_state.specs.Memory.{Mem}
use Rattle.run_items.specs.Running.{Transcript}
use Rattle.hv_run.specs.Sequence.{Sequence}

pub served_all : {s : List ℕ} {b b' : Mem} {replies answers replies' answers' : List ℕ} {n : ℕ} → Items s n → Transcript s b b' replies answers replies' answers' → Sequence s b b' replies answers replies' answers' n
served_all i t = record { transcript = t; count = ap (length {A = Item}) (framed_once t.framed i.framed) ∙ i.count }
