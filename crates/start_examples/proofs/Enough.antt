-- What `to_lend` says is enough: memories of these sizes are as a start needs them. Assumes nothing.
use mathlib.Core.Path.{◌≡◌, ◌∙◌}
use mathlib.Core.List.{List}
use Prim.Native.Nat.{ℕ, ◌≤◌, ◌<◌}
use native.Mathlib.Omega.{arith}
use lib.ListN.{length}
use Rattle.config_bytes.specs.Fields.{config_of, machines, count}
use Rattle.lending.specs.declared.Sizes.{Sizes}
use Rattle.lending.specs.Lending.{Lends}
use Rattle.zones.proofs.Laws.{slots_back, shaped_by}
use Rattle.hv_start.specs.Starting.{Roomy, Framed}

-- the machines are those of the bytes, no set needs more slots, and the frames are the pages of the allocator's region
pub lent_is_enough : (s z t o w : List ℕ) (slots : ℕ) (size : Sizes) → Lends (machines s) slots (config_of s).pool.pages size
    → ((m : ℕ) → m < machines s → count s m ≤ slots) → length z ≡ size.zones → length t ≡ size.tree → length o ≡ size.owners → length w ≡ size.words
    → Roomy s z × Framed s t o w
lent_is_enough s z t o w slots size l few ez et eo ew =
    let zones = ez ∙ l.zones in
    let enough = l.tree.enough in
    let owners = l.owners in
    let words = l.words in (
      record { shaped = shaped_by z (machines s) slots zones; slots = λ m k. let c = few m k in let e = slots_back z (machines s) slots zones (omega arith) in omega arith },
      record {
        lent = record {
          matched = record { full = rw et l.tree.full; bytes = omega arith };
          backed = record { whole = omega arith; few = omega arith };
        };
        pages = omega arith;
        frames = omega arith;
      },
    )
