-- Why the search for the smallest tree ends at it. Assumes nothing.
use mathlib.Core.Path.{◌≡◌, refl}
use Prim.Native.Nat.{ℕ, ◌+◌, ◌*◌, ◌^◌, ◌≤◌, ◌<◌}
use native.Mathlib.Omega.{arith}
use native.Mathlib.Decide.{dec_lt}
use Rattle.bitmap_tree.proofs.Fullness.{level_next, pow_le}
use Rattle.lending.specs.Lending.{Smallest}

-- w words make a tree of 16 to some power of frames, and every smaller power, from 16 on, is below so many frames
pub record Rising (frames w : ℕ) : Type 0 where
  pub depth : ℕ
  pub some : 0 < depth
  pub few : depth ≤ 13
  pub count : 15 * w + 1 ≡ 16 ^ depth
  pub below : (d : ℕ) → 0 < d → d < depth → 16 ^ d < frames

-- one word does
pub rises : (frames : ℕ) → Rising frames 1
rises frames = record { depth = 1; some = omega arith; few = omega arith; count = refl; below = λ d p l. absurd (omega arith) }

-- and where the frames are too few, so does the next tree
pub rises_more : {frames w : ℕ} → frames ≤ 2 ^ 52 → Rising frames w → 15 * w + 1 < frames → Rising frames (16 * w + 1)
rises_more {frames} {w} h r less =
    record {
      depth = r.depth + 1;
      some = omega arith;
      few = fits (dec_lt r.depth 13);
      count = level_next w r.depth r.count;
      below = λ d p l. under d p l (dec_lt d r.depth);
    }
  where
    fits : Dec (r.depth < 13) → r.depth + 1 ≤ 13
    fits (yes l) = omega arith
    fits (no g) = absurd (let a = pow_le 13 r.depth (omega arith) in let e = r.count in omega arith)

    under : (d : ℕ) → 0 < d → d < r.depth + 1 → Dec (d < r.depth) → 16 ^ d < frames
    under d p l (yes m) = r.below d p m
    under d p l (no g) =
        let e : d ≡ r.depth = omega arith in
        let c = r.count in
        rw e (omega arith)

-- where they are enough, it is the smallest
pub risen : {frames w : ℕ} → Rising frames w → frames ≤ 15 * w + 1 → Smallest frames w
risen {frames} {w} r enough =
    record {
      full = record { depth = r.depth; some = r.some; few = (let f = r.few in omega arith); count = r.count };
      enough = enough;
      least = λ d p l. above d p l (dec_lt d r.depth);
    }
  where
    above : (d : ℕ) → 0 < d → frames ≤ 16 ^ d → Dec (d < r.depth) → 15 * w + 1 ≤ 16 ^ d
    above d p l (yes m) = absurd (let b = r.below d p m in omega arith)
    above d p l (no g) =
        let a = pow_le r.depth d (omega arith) in
        let c = r.count in
        omega arith

-- no number of the search wraps
pub rising_bound : {frames w : ℕ} → Rising frames w → 15 * w + 1 ≤ 2 ^ 52
rising_bound r = let a = pow_le r.depth 13 r.few in let c = r.count in omega arith
