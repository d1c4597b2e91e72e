-- What it is to serve a request without the frames' words: it is served for any words that are all 0. Assumes nothing.
use Rattle.std.specs.Prelude.{◌≡◌, List, ℕ, get_or}
use Rattle.machine.specs.declared.Request.{Request}
use Rattle.machine.specs.declared.Answer.{Answer}
use Rattle.hv_state.specs.Serving.{Served, mem}

-- every word is 0
abbrev pub Blank : List ℕ → Type 0
Blank w = (j : ℕ) → get_or w j 0 ≡ 0

-- the request q of the machine that has a number was served, whatever words the frames have that are all 0, and they stay: t is the table, z, tr
-- and o are the machines' words, the tree and the owners' bytes before, z', tr' and o' after, and a is the answer
abbrev pub ServedBlind : List ℕ → List ℕ → List ℕ → List ℕ → ℕ → Request → List ℕ → List ℕ → List ℕ → Answer → Type 0
ServedBlind t z tr o number q z' tr' o' a = (w : List ℕ) → Blank w → Served (mem t z tr o w) number q (mem t z' tr' o' w) a
