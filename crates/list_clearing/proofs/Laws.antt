-- What clearing does to each word. Assumes nothing.
use mathlib.Core.Path.{◌≡◌, refl, sym, ◌∙◌, ap, subst}
use mathlib.Core.Bool.{Bool, true, false}
use mathlib.Core.List.{List}
use Prim.Native.Nat.{ℕ, ◌+◌, ◌-◌, ◌*◌, ◌/◌, ◌%◌, ◌≤◌, ◌<◌, min}
use lib.Dec.{leb, ltb}
use lib.ListN.{length, get_or, get_or-eq_default}
use native.Mathlib.Decide.{dec_lt}
use native.Mathlib.Numerals.{add-one}
use native.Mathlib.Omega.{arith}
use borrow.Author.Tests.{leb-true, leb-false, ltb-true, ltb-false}
use Rattle.base.specs.Choices.{pick, both, within}
use Rattle.base.proofs.Choices.{never, not_passed, not_failed, both_left, both_right}
use Rattle.owners.specs.States as frames
use Rattle.owners.specs.States.{state}
use Rattle.contents.specs.Contents.{frames_in, Backed, Wiped, WipedOf}
use Rattle.machine.specs.declared.Request.{Request}
use Rattle.machine.specs.State.{is_mine}
use Rattle.machine.proofs.Frames.{mine_is, is_mine_lem}
use Rattle.list_model.specs.Carrying.{frees, cleared_by}
use Rattle.list_clearing.specs.Clearing.{ClearedWhere, ClearedAll}

-- a frame is one of a run exactly if it lies between its ends
in_run : (k n i : ℕ) → k ≤ i → i < k + n → within k n i ≡ true
in_run k n i a b = not_failed (within k n i) (λ e. go (leb k i) (ltb i (k + n)) refl refl e)
  where
    go : (x y : Bool) → leb k i ≡ x → ltb i (k + n) ≡ y → both x y ≡ false → ⊥
    go true true e f h = never h
    go true false e f h = let l = ltb-false i (k + n) f in omega arith
    go false y e f h = let l = leb-false k i e in omega arith

in_order : (k n i : ℕ) → within k n i ≡ true → (k ≤ i) × (i < k + n)
in_order k n i e = (leb-true k i (both_left (leb k i) (ltb i (k + n)) e), ltb-true i (k + n) (both_right (leb k i) (ltb i (k + n)) e))

-- and one before it is none of it
pub not_in_run : (k n i : ℕ) → i < k → within k n i ≡ false
not_in_run k n i l = not_passed (within k n i) (λ e. let x = (in_order k n i e).0 in omega arith)

-- no frame passes, and nothing is cleared
pub none_cleared : {test : ℕ → Bool} (w : List ℕ) → ((i : ℕ) → i < frames_in w → test i ≡ false) → length w % 512 ≡ 0 → ClearedWhere test w w
none_cleared {test} w none whole = record { long = refl; words = λ j. go j (dec_lt j (length w)) }
  where
    either : (b : Bool) → ◌≡◌ {A = ℕ} 0 (pick b 0 0)
    either true = refl
    either false = refl

    go : (j : ℕ) → Dec (j < length w) → get_or w j 0 ≡ pick (test (j / 512)) 0 (get_or w j 0)
    go j (yes l) = sym (ap (λ (b : Bool). pick b 0 (get_or w j 0)) (none (j / 512) (omega arith)))
    go j (no l) = let e : get_or w j 0 ≡ 0 = get_or-eq_default w 0 (omega (arith, l)) in rw e (either (test (j / 512)))

-- those from k on that have contents are cleared
pub run_cleared : {w w' : List ℕ} (k n e : ℕ) → length w % 512 ≡ 0 → k < frames_in w → e ≡ k + min n (frames_in w - k) → Wiped w k e w' → ClearedWhere (within k n) w w'
run_cleared {w} {w'} k n e whole l is h = record { long = h.long; words = λ j. go j (dec_lt j (length w)) (within k n (j / 512)) refl }
  where
    go : (j : ℕ) → Dec (j < length w) → (b : Bool) → within k n (j / 512) ≡ b → get_or w' j 0 ≡ pick b 0 (get_or w j 0)
    go j (yes a) true q =
        let x = in_order k n (j / 512) q in
        let lo = x.0 in
        let hi = x.1 in
        let back : 512 * (j / 512) + j % 512 ≡ j = omega arith in
        rw back at (h.inside (j / 512) lo (omega arith) (j % 512) (omega arith))
    go j (yes a) false q =
        let back : 512 * (j / 512) + j % 512 ≡ j = omega arith in
        rw back at (h.outside (j / 512) (λ lo hi. never (sym (in_run k n (j / 512) lo (omega arith)) ∙ q)) (j % 512) (omega arith))
    go j (no a) true q = get_or-eq_default w' 0 (let x = h.long in omega (arith, a))
    go j (no a) false q = get_or-eq_default w' 0 (let x = h.long in omega (arith, a)) ∙ sym (get_or-eq_default w 0 (omega (arith, a)))

-- those from an address on
pub from_cleared : {w w' : List ℕ} (first addr n m : ℕ) → m ≡ addr - first → ClearedWhere (within (m / 4096) n) w w' → ClearedWhere (within ((addr - first) / 4096) n) w w'
from_cleared {w} {w'} first addr n m e h = subst (λ (x : ℕ). ClearedWhere (within (x / 4096) n) w w') e h

-- those of a client are cleared
pub owned_cleared : {t o w w' : List ℕ} (c : ℕ) → Backed o w → WipedOf t o w c w' → ClearedWhere (λ k. is_mine c (state t o k)) w w'
owned_cleared {t} {o} {w} {w'} c b h = record { long = h.long; words = λ j. go j (dec_lt j (length w)) (is_mine c (state t o (j / 512))) refl }
  where
    go : (j : ℕ) → Dec (j < length w) → (x : Bool) → is_mine c (state t o (j / 512)) ≡ x → get_or w' j 0 ≡ pick x 0 (get_or w j 0)
    go j (yes a) true q =
        let back : 512 * (j / 512) + j % 512 ≡ j = omega arith in
        let whole = b.whole in
        rw back at (h.mine (j / 512) (omega arith) (mine_is c (state t o (j / 512)) q) (j % 512) (omega arith))
    go j (yes a) false q =
        let back : 512 * (j / 512) + j % 512 ≡ j = omega arith in
        rw back at (h.others (j / 512) (λ e. never (sym (is_mine_lem c (state t o (j / 512)) e) ∙ q)) (j % 512) (omega arith))
    go j (no a) true q = get_or-eq_default w' 0 (let x = h.long in omega (arith, a))
    go j (no a) false q = get_or-eq_default w' 0 (let x = h.long in omega (arith, a)) ∙ sym (get_or-eq_default w 0 (omega (arith, a)))

-- ---- requests

module _ (t o w : List ℕ) (first c : ℕ) {q v : Request} (e : q ≡ v) where
  -- what is cleared for a request is cleared for the same
  pub of_request : {w' : List ℕ} → ClearedWhere (frees first (state t o) c v) w w' → ClearedWhere (frees first (state t o) c q) w w'
  of_request {w'} h = subst (λ (x : Request). ClearedWhere (frees first (state t o) c x) w w') (sym e) h

  -- one that frees nothing
  pub of_no_frame_lem : Backed o w → ((i : ℕ) → frees first (state t o) c v i ≡ false) → ClearedWhere (frees first (state t o) c q) w w
  of_no_frame_lem b none = of_request (none_cleared {test = frees first (state t o) c v} w (λ i l. none i) b.whole)

-- ---- a list

pub all_none : (first : ℕ) (frame : ℕ → frames.State) (m : ℕ) (f : ℕ → Request) (w : List ℕ) → ClearedAll first frame m f 0 w w
all_none first frame m f w = record { long = refl; words = λ j. refl }

pub all_more : (first : ℕ) (frame : ℕ → frames.State) (m : ℕ) (f : ℕ → Request) (i : ℕ) (w w' w'' : List ℕ) → ClearedAll first frame m f i w w' → ClearedWhere (frees first frame m (f i)) w' w'' → ClearedAll first frame m f (i + 1) w w''
all_more first frame m f i w w' w'' a h =
    record {
      long = h.long ∙ a.long;
      words = λ j. h.words j ∙ ap (pick (frees first frame m (f i) (j / 512)) 0) (a.words j) ∙ ap (λ (k : ℕ). cleared_by first frame m f k j (get_or w j 0)) (sym (add-one i));
    }

-- the contents stay those of as many frames
pub still_backed : {o w w' : List ℕ} → Backed o w → length w' ≡ length w → Backed o w'
still_backed b e = record { whole = rw e b.whole; few = rw e b.few }
