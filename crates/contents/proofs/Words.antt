-- Words and frames that are wiped. Assumes nothing.
use mathlib.Core.Path.{◌≡◌, refl, sym, ◌∙◌}
use mathlib.Core.Bool.{Bool, true, false}
use mathlib.Core.List.{List}
use Prim.Native.Nat.{ℕ, ◌+◌, ◌*◌, ◌≤◌, ◌<◌}
use native.Mathlib.Decide.{ℕ_discrete}
use native.Mathlib.Omega.{arith}
use lib.ListN.{length}
use Rattle.std.specs.Prelude.{◌≢◌}
use Rattle.std.specs.Bool.{MatchBool}
use Rattle.std.specs.List.{AllWithin, HoldsAt}
use Rattle.base.specs.Says.{Says}
use Rattle.base.proofs.Positions.{part, part_long, word_at}
use Rattle.base.specs.Ranges.{Emptied}
use Rattle.owners.specs.States.{State, State.Owned, state}
use Rattle.owner_passes.specs.Passes.{owns}
use Rattle.owner_passes.proofs.Counting.{owns_none, owns_one, owns_small}
use Rattle.contents.specs.Contents.{frames_in, Zero, Same, Wiped, WipedOf}

-- the words of whole frames
pub wiped_frames : (w : List ℕ) (a b : ℕ) (w' : List ℕ) → Emptied w (512 * a) (512 * b) w' → Wiped w a b w'
wiped_frames w a b w' e = record {
  long = e.long;
  inside = λ k l h i s. e.inside (512 * k + i) (omega arith) (omega arith);
  outside = λ k x i s. e.outside (512 * k + i) (λ l h. x (omega arith) (omega arith));
}

-- ---- a client's frames

-- the frames of the client c below k are all 0, and no other frame's words changed
pub record Wiping (t o w : List ℕ) (c k : ℕ) (w' : List ℕ) : Type 0 where
  pub long : length w' ≡ length w
  pub mine : (m : ℕ) → m < k → state t o m ≡ Owned c → Zero w' m
  pub others : (m : ℕ) → (m < k → state t o m ≡ Owned c → ⊥) → Same w w' m

pub wipe_start : (t o w : List ℕ) (c : ℕ) → Wiping t o w c 0 w
wipe_start t o w c = record { long = refl; mine = λ m l. absurd (omega arith); others = λ m n i s. refl }

-- a frame that counts is the client's
pub counts : (c : ℕ) (s : State) (r : ℕ) → r ≡ owns c s → r ≡ 1 → (s ≡ Owned c → ⊥) → ⊥
counts c s r e f n = let z = owns_none c s n in omega arith

-- one frame more, if it is the client's
pub wipe_more : (t o w : List ℕ) (c k r : ℕ) (w' w'' : List ℕ) → r ≡ owns c (state t o k) → Wiping t o w c k w' → Wiped w' k (k + r) w'' → Wiping t o w c (k + 1) w''
wipe_more t o w c k r w' w'' e x y = record {
  long = y.long ∙ x.long;
  mine = λ m l s. mine m l s (ℕ_discrete m k);
  others = λ m n i h. y.outside m (λ p q. away m n p q) i h ∙ x.others m (λ l. n (omega arith)) i h;
}
  where
    mine : (m : ℕ) → m < k + 1 → state t o m ≡ Owned c → Dec (m ≡ k) → Zero w'' m
    mine m l s (yes q) = y.inside m (omega arith) (let s' : state t o k ≡ Owned c = rw q at s in let one = owns_one c (state t o k) s' in omega arith)
    mine m l s (no d) = λ i h. y.outside m (λ p q. omega (arith, d)) i h ∙ x.mine m (omega (arith, d)) s i h

    away : (m : ℕ) → (m < k + 1 → state t o m ≡ Owned c → ⊥) → k ≤ m → m < k + r → ⊥
    away m n p q = at (ℕ_discrete m k)
      where
        at : Dec (m ≡ k) → ⊥
        at (yes g) = let none = owns_none c (state t o k) (λ s. n (omega arith) (rw g s)) in omega arith
        at (no d) = let small = owns_small c (state t o k) in omega (arith, d)

pub wipe_done : (t o w : List ℕ) (c k : ℕ) (w' : List ℕ) → frames_in w ≤ k → Wiping t o w c k w' → WipedOf t o w c w'
wipe_done t o w c k w' l x = record { long = x.long; mine = λ m h s. x.mine m (omega arith) s; others = λ m n. x.others m (λ _. n) }

-- ---- what is all 0

-- the words of frame k, as a list
abbrev pub frame : List ℕ → ℕ → ℕ → List ℕ
frame w k n = part w (512 * k) n

frame_long : (w : List ℕ) (k n : ℕ) → n ≡ 512 → k < frames_in w → length (frame w k n) ≡ n
frame_long w k n e l = part_long w (512 * k) n (omega arith)

-- whether all of them are 0, where that is asked of a frame of which F holds
pub zero_said : {F : Type 0} (w : List ℕ) (k n : ℕ) (r : Bool) → F → n ≡ 512 → k < frames_in w
    → MatchBool r (AllWithin (λ x. x ≡ 0) (frame w k n) 0 (length (frame w k n))) ((j : ℕ) × (j < length (frame w k n)) × HoldsAt (λ x. x ≢ 0) (frame w k n) j)
    → Says r (F → Zero w k)
zero_said w k n true f e l h = λ _ i b. sym (word_at w (512 * k) n i 0 (omega arith)) ∙ h i 0 (omega arith) (let q = frame_long w k n e l in omega arith)
zero_said w k n false f e l h =
    let q : h.0 < 512 = let g = frame_long w k n e l in let b = h.1 in omega arith in
    λ z. h.2 0 (word_at w (512 * k) n h.0 0 (omega arith) ∙ z f h.0 q)
