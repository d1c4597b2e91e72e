-- How a write to a machine's words changes what they all mean: its presence, or one of its sets. Assumes nothing.
use mathlib.Core.Path.{◌≡◌, refl, sym, ◌∙◌, ap}
use mathlib.Core.Bool.{false}
use mathlib.Core.List.{List, []}
use Prim.Native.Nat.{ℕ, ◌+◌, ◌*◌, ◌/◌, ◌-◌, ◌≤◌, ◌<◌, max}
use lib.Dec.{eqb, ltb}
use lib.ListN.{length, get_or}
use native.Mathlib.Decide.{ℕ_discrete}
use native.Mathlib.Omega.{arith}
use borrow.Author.Tests.{lt-ltb, le-ltb}
use Rattle.base.specs.Ranges.{Outside, Only}
use Rattle.base.specs.Choices.{pick, both, at}
use Rattle.base.proofs.Choices.{is_at}
use Rattle.address.specs.declared.Region.{Region}
use Rattle.set_slots.specs.Slots.{regions_in, SetOk, Became}
use Rattle.machine.specs.declared.Which.{Which}
use Rattle.machine.specs.declared.Which.TheVariants.{Processors, Devices}
use Rattle.machine.specs.State.{change}
use Rattle.zones.specs.Layout.{stride, slots_in, place_of, set_at, Shaped}
use Rattle.hv_state.specs.Memory.{present_in, set_place, set_in, ZonesOk}
use Rattle.hv_state.proofs.Places.{regions_kept, set_kept, set_low, set_high, other_clear, flag_clear}

-- as many words have as many slots
pub slots_kept : (z z' : List ℕ) (n : ℕ) → length z' ≡ length z → slots_in z' n ≡ slots_in z n
unfolding slots_in
slots_kept z z' n e = ap (λ (x : ℕ). (x / max 1 n - 3) / 8) e

pub shaped_kept : (z z' : List ℕ) (n : ℕ) → length z' ≡ length z → Shaped z n → Shaped z' n
shaped_kept z z' n e h = record { exact = e ∙ h.exact ∙ ap (λ (x : ℕ). n * stride x) (sym (slots_kept z z' n e)) }

-- what is read of a machine, by its first word and by its sets' regions
pub present_is : (z : List ℕ) (n m : ℕ) → m < n → present_in z n m ≡ eqb (get_or z (place_of (slots_in z n) m) 0) 1
unfolding present_in
present_is z n m l = rw (lt-ltb m n l)

pub present_none : (z : List ℕ) (n m : ℕ) → n ≤ m → present_in z n m ≡ false
unfolding present_in
present_none z n m l = rw (le-ltb m n l)

pub set_is : (z : List ℕ) (n m : ℕ) (w : Which) → m < n → set_in z n m w ≡ regions_in z (set_place z n m w) (slots_in z n)
unfolding set_in
set_is z n m w l = rw (lt-ltb m n l)

pub set_none : (z : List ℕ) (n m : ℕ) (w : Which) → n ≤ m → set_in z n m w ≡ []
unfolding set_in
set_none z n m w l = rw (le-ltb m n l)

-- a write within the words of machine m
module _ (z z' : List ℕ) (n m a b : ℕ) (o : Only z a b z') (low : place_of (slots_in z n) m ≤ a) (high : b ≤ place_of (slots_in z n) m + stride (slots_in z n)) where
  slots_same : slots_in z' n ≡ slots_in z n
  slots_same = slots_kept z z' n o.long

  -- leaves what another machine's first word says
  pub other_present : (m' : ℕ) → (m' ≡ m → ⊥) → present_in z' n m' ≡ present_in z n m'
  unfolding present_in
  other_present m' d = rw slots_same (ap (λ (x : ℕ). both (ltb m' n) (eqb x 1)) (o.others (place_of (slots_in z n) m') (flag_clear (slots_in z n) m m' a b (λ e. d (sym e)) low high)))

  -- and its sets
  pub other_set : (m' : ℕ) → (m' ≡ m → ⊥) → (w : Which) → set_in z' n m' w ≡ set_in z n m' w
  unfolding set_in
  other_set m' d w = rw slots_same (ap (λ (x : List Region). pick (ltb m' n) x []) (regions_kept z z' a b (set_place z n m' w) (slots_in z n) o (other_clear (slots_in z n) m m' w a b (λ e. d (sym e)) low high)))

  pub other_ok : (m' : ℕ) → (m' ≡ m → ⊥) → (w : Which) → SetOk z (set_place z n m' w) (slots_in z n) → SetOk z' (set_place z n m' w) (slots_in z n)
  other_ok m' d w s = set_kept z z' a b (set_place z n m' w) (slots_in z n) o (other_clear (slots_in z n) m m' w a b (λ e. d (sym e)) low high) s

  pub other_flag : (m' : ℕ) → (m' ≡ m → ⊥) → get_or z' (place_of (slots_in z n) m') 0 ≡ get_or z (place_of (slots_in z n) m') 0
  other_flag m' d = o.others (place_of (slots_in z n) m') (flag_clear (slots_in z n) m m' a b (λ e. d (sym e)) low high)

-- ---- the presence of machine m becomes v

module _ (z z' : List ℕ) (n m v : ℕ) (l : m < n) (o : Only z (place_of (slots_in z n) m) (place_of (slots_in z n) m + 1) z') (is : get_or z' (place_of (slots_in z n) m) 0 ≡ v) where
  flag_high : place_of (slots_in z n) m + 1 ≤ place_of (slots_in z n) m + stride (slots_in z n)
  flag_high = omega arith

  own_clear : (w : Which) (k : ℕ) → set_place z n m w ≤ k → k < set_place z n m w + 1 + 4 * slots_in z n → Outside (place_of (slots_in z n) m) (place_of (slots_in z n) m + 1) k
  own_clear w k p q x y = let s = set_low (place_of (slots_in z n) m) (slots_in z n) w in omega arith

  pub flag_present : present_in z' n ≡ at (present_in z n) m (eqb v 1)
  unfolding present_in
  flag_present = λ i m'. is_at (present_in z n) (present_in z' n) m (eqb v 1) here (other_present z z' n m (place_of (slots_in z n) m) (place_of (slots_in z n) m + 1) o (omega arith) flag_high) m' i
    where
      here : present_in z' n m ≡ eqb v 1
      here = rw (slots_kept z z' n o.long, lt-ltb m n l, is)

  pub flag_sets : set_in z' n ≡ set_in z n
  unfolding set_in
  flag_sets = λ i m' w. go m' w (ℕ_discrete m' m) i
    where
      go : (m' : ℕ) (w : Which) → Dec (m' ≡ m) → set_in z' n m' w ≡ set_in z n m' w
      go m' w (no d) = other_set z z' n m (place_of (slots_in z n) m) (place_of (slots_in z n) m + 1) o (omega arith) flag_high m' d w
      go m' w (yes e) = rw (e, slots_kept z z' n o.long) (ap (λ (x : List Region). pick (ltb m n) x []) (regions_kept z z' (place_of (slots_in z n) m) (place_of (slots_in z n) m + 1) (set_place z n m w) (slots_in z n) o (own_clear w)))

  pub flag_ok : v < 2 → ZonesOk z n → ZonesOk z' n
  flag_ok small ok =
      record {
        flagged = record { shaped = shaped_kept z z' n o.long ok.flagged.shaped; flags = λ m' h. rw (slots_kept z z' n o.long) (flag m' h (ℕ_discrete m' m)) };
        sets = λ m' h w. rw (slots_kept z z' n o.long) (sets m' h w (ℕ_discrete m' m));
      }
    where
      flag : (m' : ℕ) → m' < n → Dec (m' ≡ m) → get_or z' (place_of (slots_in z n) m') 0 < 2
      flag m' h (yes e) = rw (e, is) small
      flag m' h (no d) = rw (other_flag z z' n m (place_of (slots_in z n) m) (place_of (slots_in z n) m + 1) o (omega arith) flag_high m' d) (ok.flagged.flags m' h)

      sets : (m' : ℕ) → m' < n → (w : Which) → Dec (m' ≡ m) → SetOk z' (set_place z n m' w) (slots_in z n)
      sets m' h w (no d) = other_ok z z' n m (place_of (slots_in z n) m) (place_of (slots_in z n) m + 1) o (omega arith) flag_high m' d w (ok.sets m' h w)
      sets m' h w (yes e) = rw e (set_kept z z' (place_of (slots_in z n) m) (place_of (slots_in z n) m + 1) (set_place z n m w) (slots_in z n) o (own_clear w) (ok.sets m l w))

-- ---- a set of machine m becomes one of other regions

-- the two sets of a machine have no word in common
sides_apart : (place slots : ℕ) (w : Which) (P : Which → Type 0) → P w → ((v : Which) → ((k : ℕ) → set_at place slots v ≤ k → k < set_at place slots v + 1 + 4 * slots → Outside (set_at place slots w) (set_at place slots w + 1 + 4 * slots) k) → P v) → (v : Which) → P v
sides_apart place slots Processors P h f Processors = h
sides_apart place slots Processors P h f Devices = f Devices (λ k p q x y. omega arith)
sides_apart place slots Devices P h f Processors = f Processors (λ k p q x y. omega arith)
sides_apart place slots Devices P h f Devices = h

changed_here : (w : Which) (l : List Region) (f : Which → List Region) → change w l f w ≡ l
changed_here Processors l f = refl
changed_here Devices l f = refl

module _ (z z' : List ℕ) (n m : ℕ) (w : Which) (r : List Region) (l : m < n) (c : Became z (set_place z n m w) (slots_in z n) r z') where
  first : ℕ
  first = set_place z n m w

  last : ℕ
  last = set_place z n m w + 1 + 4 * slots_in z n

  low : place_of (slots_in z n) m ≤ set_place z n m w
  low = let s = set_low (place_of (slots_in z n) m) (slots_in z n) w in omega arith

  high : set_place z n m w + 1 + 4 * slots_in z n ≤ place_of (slots_in z n) m + stride (slots_in z n)
  high = set_high (place_of (slots_in z n) m) (slots_in z n) w

  own_flag : get_or z' (place_of (slots_in z n) m) 0 ≡ get_or z (place_of (slots_in z n) m) 0
  own_flag = c.only.others (place_of (slots_in z n) m) (λ x y. let s = set_low (place_of (slots_in z n) m) (slots_in z n) w in omega arith)

  pub set_present : present_in z' n ≡ present_in z n
  unfolding present_in
  set_present = λ i m'. go m' (ℕ_discrete m' m) i
    where
      go : (m' : ℕ) → Dec (m' ≡ m) → present_in z' n m' ≡ present_in z n m'
      go m' (no d) = other_present z z' n m (set_place z n m w) (set_place z n m w + 1 + 4 * slots_in z n) c.only low high m' d
      go m' (yes e) = rw (e, slots_kept z z' n c.only.long) (ap (λ (x : ℕ). both (ltb m n) (eqb x 1)) own_flag)

  pub set_sets : set_in z' n ≡ at (set_in z n) m (change w r (set_in z n m))
  set_sets = λ i m'. is_at (set_in z n) (set_in z' n) m (change w r (set_in z n m)) (λ j v. mine v j) (λ m' d j v. other_set z z' n m (set_place z n m w) (set_place z n m w + 1 + 4 * slots_in z n) c.only low high m' d v j) m' i
    where
      read : (v : Which) → regions_in z' (set_place z n m v) (slots_in z n) ≡ set_in z' n m v
      read v = sym (set_is z' n m v l ∙ ap (λ (x : ℕ). regions_in z' (set_at (place_of x m) x v) x) (slots_kept z z' n c.only.long))

      mine : (v : Which) → set_in z' n m v ≡ change w r (set_in z n m) v
      mine =
          sides_apart (place_of (slots_in z n) m) (slots_in z n) w (λ v. set_in z' n m v ≡ change w r (set_in z n m) v)
          (sym (read w) ∙ c.is ∙ sym (changed_here w r (set_in z n m)))
          (λ v clear. sym (read v) ∙ regions_kept z z' (set_place z n m w) (set_place z n m w + 1 + 4 * slots_in z n) (set_place z n m v) (slots_in z n) c.only clear ∙ sym (set_is z n m v l) ∙ sym (left v clear))
        where
          left : (v : Which) → ((k : ℕ) → set_place z n m v ≤ k → k < set_place z n m v + 1 + 4 * slots_in z n → Outside (set_place z n m w) (set_place z n m w + 1 + 4 * slots_in z n) k) → change w r (set_in z n m) v ≡ set_in z n m v
          left v clear = go w v clear
            where
              go : (w v : Which) → ((k : ℕ) → set_place z n m v ≤ k → k < set_place z n m v + 1 + 4 * slots_in z n → Outside (set_place z n m w) (set_place z n m w + 1 + 4 * slots_in z n) k) → change w r (set_in z n m) v ≡ set_in z n m v
              go Processors Processors f = absurd (f (set_place z n m Processors) (omega arith) (omega arith) (omega arith) (omega arith))
              go Processors Devices f = refl
              go Devices Processors f = refl
              go Devices Devices f = absurd (f (set_place z n m Devices) (omega arith) (omega arith) (omega arith) (omega arith))

  pub set_ok : ZonesOk z n → ZonesOk z' n
  set_ok ok =
      record {
        flagged = record { shaped = shaped_kept z z' n c.only.long ok.flagged.shaped; flags = λ m' h. rw (slots_kept z z' n c.only.long) (flag m' h (ℕ_discrete m' m)) };
        sets = λ m' h v. rw (slots_kept z z' n c.only.long) (sets m' h v (ℕ_discrete m' m));
      }
    where
      flag : (m' : ℕ) → m' < n → Dec (m' ≡ m) → get_or z' (place_of (slots_in z n) m') 0 < 2
      flag m' h (yes e) = rw (e, own_flag) (ok.flagged.flags m l)
      flag m' h (no d) = rw (other_flag z z' n m (set_place z n m w) (set_place z n m w + 1 + 4 * slots_in z n) c.only low high m' d) (ok.flagged.flags m' h)

      sets : (m' : ℕ) → m' < n → (v : Which) → Dec (m' ≡ m) → SetOk z' (set_place z n m' v) (slots_in z n)
      sets m' h v (no d) = other_ok z z' n m (set_place z n m w) (set_place z n m w + 1 + 4 * slots_in z n) c.only low high m' d v (ok.sets m' h v)
      sets m' h v (yes e) =
          rw e
          (sides_apart (place_of (slots_in z n) m) (slots_in z n) w (λ v. SetOk z' (set_place z n m v) (slots_in z n)) (c.ok (ok.sets m l w))
          (λ v clear. set_kept z z' (set_place z n m w) (set_place z n m w + 1 + 4 * slots_in z n) (set_place z n m v) (slots_in z n) c.only clear (ok.sets m l v)) v)
