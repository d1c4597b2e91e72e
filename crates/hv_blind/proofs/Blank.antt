-- Frames that are all 0: to clear them changes nothing. Assumes nothing.
use mathlib.Core.Path.{◌≡◌, refl, sym, ◌∙◌}
use mathlib.Core.List.{List}
use Prim.Native.Nat.{ℕ, ◌+◌, ◌*◌, ◌≤◌, ◌<◌}
use native.Mathlib.Decide.{dec_lt}
use native.Mathlib.Omega.{arith}
use Rattle.owners.specs.States.{State.Free, State.Owned, state, Accounted}
use Rattle.owners.specs.Writes.{Became}
use Rattle.owners.proofs.States.{client_not_reserved}
use Rattle.contents.specs.Contents.{frames_in, Wiped, Clean}
use Rattle.contents.proofs.Cleaning.{clean_after}
use Rattle.machine.specs.declared.Request.{Request}
use Rattle.machine.specs.declared.Answer.{Answer}
use Rattle.machine.specs.Parts.{Refused}
use Rattle.hv_state.specs.Memory.{Mem, Sound}
use Rattle.hv_state.specs.Serving.{Served}
use Rattle.hv_blind.specs.Blind.{Blank}

-- a request is served if it is where the memories are sound, and if a refusal leaves them
pub where_sound : (b : Mem) (number : ℕ) (q : Request) (b' : Mem) (a : Answer) → (Refused a → b' ≡ b) → (Sound b → Served b number q b' a) → Served b number q b' a
where_sound b number q b' a k f = record { kept = k; same = λ s. (f s).same s; sound = λ s. (f s).sound s; plan = λ s. (f s).plan s }

-- a client's frame has contents
pub has_contents : (base : ℕ) (t o w : List ℕ) (m k : ℕ) → Clean base t o w → state t o k ≡ Owned m → k < frames_in w
has_contents base t o w m k q e = go (dec_lt k (frames_in w))
  where
    go : Dec (k < frames_in w) → k < frames_in w
    go (yes l) = l
    go (no l) = absurd (client_not_reserved m (sym e ∙ q.beyond k (omega (arith, l))))

module _ (w : List ℕ) (blank : Blank w) where
  pub blank_wiped : (a b : ℕ) → Wiped w a b w
  blank_wiped a b = record { long = refl; inside = λ k l h i s. blank (512 * k + i); outside = λ k d i s. refl }

  -- the memories stay clean where the n frames from k on, which are a client's, become free
  pub blank_clean : (base : ℕ) (t o : List ℕ) (m k n : ℕ) (t' o' : List ℕ) → ((j : ℕ) → k ≤ j → j < k + n → state t o j ≡ Owned m) → Became t o k (k + n) Free t' o' → (Accounted base t o → Accounted base t' o') → Clean base t o w → Clean base t' o' w
  blank_clean base t o m k n t' o' mine x acc q =
      clean_after base t o w k (k + n) Free t' o' w q (acc q.accounted) x refl (λ j a b l. absurd (client_not_reserved m (sym (mine j a b) ∙ q.beyond j l))) (λ j a b e i h. blank (512 * j + i)) (λ j d i h. refl)
