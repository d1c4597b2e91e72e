-- What is left of the requests f 0 to f (n - 1) that were attempted: t is the table, z, tr and o are the machines' words, the tree and the owners'
-- bytes before, z', tr' and o' after, and the buffer has the answers. Assumes nothing.
use Rattle.std.specs.Prelude.{◌≡◌, List, ℕ, length, Result, Ok, Err}
use Rattle.machine.specs.declared.Request.{Request}
use Rattle.list_attempt.specs.declared.Halted.{Halted}
use Rattle.list_attempt.specs.Attempting.{AttemptSays}

-- the spare memory is as long as what it is to hold: the machines' words, the tree and the owners' bytes
pub record SpareFits (z tr o spareZones spareTree spareOwners : List ℕ) : Type 0 where
  pub zones : length spareZones ≡ length z
  pub tree : length spareTree ≡ length tr
  pub owners : length spareOwners ≡ length o

-- the requests were attempted; where one was refused, everything is as it was
abbrev pub UndoneSays : List ℕ → List ℕ → List ℕ → List ℕ → ℕ → (ℕ → Request) → ℕ → List ℕ → List ℕ → List ℕ → List ℕ → ℕ
    → Result (Unit {0}) Halted → Type 0
UndoneSays t z tr o number f n z' tr' o' buffer at (Ok u) = AttemptSays t z tr o number f n z' tr' o' buffer at (Ok u)
UndoneSays t z tr o number f n z' tr' o' buffer at (Err h) =
    (z' ≡ z) × (tr' ≡ tr) × (o' ≡ o) × AttemptSays t z tr o number f n z' tr' o' buffer at (Err h)
