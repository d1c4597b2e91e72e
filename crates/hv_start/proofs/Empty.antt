-- What words mean that are all 0. Assumes nothing.
use mathlib.Core.Path.{◌≡◌, ap, ◌∙◌}
use mathlib.Core.List.{List}
use Prim.Native.Nat.{ℕ, ◌+◌, ◌*◌, ◌/◌, ◌%◌, ◌≤◌, ◌<◌}
use lib.ListN.{length, get_or, get_or-eq_default, replicate}
use native.Mathlib.Decide.{dec_lt}
use native.Mathlib.Omega.{arith}
use Rattle.base.proofs.Ranges.{zero_word}
use Rattle.contents.specs.Contents.{frames_in, Wiped}
use Rattle.hv_start.specs.Starting.{Zeros}

-- as many words that are all 0
pub zeros : (z z' : List ℕ) → length z' ≡ length z → z' ≡ replicate (length z) 0 → Zeros z z'
zeros z z' l e = record { long = l; zero = λ j. ap (λ (x : List ℕ). get_or x j 0) e ∙ zero_word (length z) j }

-- the words of whole frames that are wiped
pub frames_zero : (w w' : List ℕ) → length w % 512 ≡ 0 → Wiped w 0 (frames_in w) w' → (j : ℕ) → get_or w' j 0 ≡ 0
frames_zero w w' whole e j = go (dec_lt j (length w))
  where
    go : Dec (j < length w) → get_or w' j 0 ≡ 0
    go (yes h) = let p : j ≡ 512 * (j / 512) + j % 512 = omega arith in rw p (e.inside (j / 512) (omega arith) (omega arith) (j % 512) (omega arith))
    go (no h) = get_or-eq_default w' 0 (let l = e.long in omega (arith, h))
