-- All frames of a client made free: t, o and w are the tree, the owners' bytes and the frames' words before, t', o' and w' after. Assumes nothing.
use Rattle.std.specs.Prelude.{Bool, true, false, List, ℕ, ◌<◌}
use Rattle.contents.specs.Contents.{Clean, KeptAll}
use Rattle.frames_pool.specs.Pool.{Released}

-- whether they are, or nothing changed and the memories are not in order
abbrev pub FreedSays : ℕ → List ℕ → List ℕ → List ℕ → ℕ → List ℕ → List ℕ → List ℕ → Bool → Type 0
FreedSays base t o w c t' o' w' true = Released base t o w c t' o' w'
FreedSays base t o w c t' o' w' false = KeptAll t o w t' o' w' × (c < 64 → Clean base t o w → ⊥)
