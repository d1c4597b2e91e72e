-- The starts of short runs: a word of frames and the word behind it hold every run of sixteen or fewer that starts in the first.
-- Assumes nothing.
use mathlib.Core.Path.{◌≡◌, sym, ap, ◌∙◌}
use mathlib.Core.List.{List}
use Prim.Native.Nat.{ℕ, zero, suc, ◌+◌, ◌-◌, ◌*◌, ◌/◌, ◌%◌, ◌^◌, ◌≤◌, ◌<◌}
use native.Mathlib.Decide.{dec_le, dec_lt}
use native.Mathlib.Omega.{arith}
use lib.ListN.{length, get_or, get_or-eq_default}
use Rattle.bits16.specs.Bits.{bit, Lowest}
use Rattle.bits16.specs.Runs.{SetRun, Multiples, Starts}
use Rattle.bits16.proofs.Laws.{lowest_set}
use Rattle.bits16.proofs.Doubling.{low_bit, high_bit}
use Rattle.bitmap_tree.specs.Tree.{node_bit, free, Full, Agree}
use Rattle.bitmap_tree.proofs.Nodes.{child_bit, parent_none, parent_some}
use Rattle.bitmap_tree.proofs.Fullness.{full_whole}
use Rattle.std.specs.Prelude.{Err}
use Rattle.bitmap_search.specs.declared.Missed.{Missed}
use Rattle.bitmap_search.specs.declared.Missed.TheVariants.{Nothing, Corrupt}
use Rattle.bitmap_search.specs.Found.{IsNext, NoneFrom, NextSays}
use Rattle.bitmap_runs.specs.Runs.{Run, LowestRun}
use Rattle.bitmap_runs.specs.Short.{Scanning, GoesOn, LookSays}

-- ---- two words of frames

-- the bits of word p and of the word behind it are those of 32 nodes in a row
pair_node : (t : List ℕ) (p j : ℕ) → get_or t p 0 < 65536 → j < 32 → node_bit t (16 * p + 1 + j) ≡ bit (get_or t p 0 + 65536 * get_or t (p + 1) 0) j
pair_node t p j f h = go (dec_lt j 16)
  where
    go : Dec (j < 16) → node_bit t (16 * p + 1 + j) ≡ bit (get_or t p 0 + 65536 * get_or t (p + 1) 0) j
    go (yes l) = child_bit t p j l ∙ sym (low_bit (get_or t p 0) (get_or t (p + 1) 0) j f l)
    go (no g) =
        let e : 16 * p + 1 + j ≡ 16 * (p + 1) + 1 + (j - 16) = omega arith in
        let k : 16 + (j - 16) ≡ j = omega arith in
        ap (node_bit t) e ∙ child_bit t (p + 1) (j - 16) (omega arith)
        ∙ sym (high_bit (get_or t p 0) (get_or t (p + 1) 0) (j - 16) f) ∙ ap (bit (get_or t p 0 + 65536 * get_or t (p + 1) 0)) k

-- a set bit is that of a node that there is
set_within : (t : List ℕ) (j : ℕ) → 0 < j → node_bit t j ≡ 1 → j ≤ 16 * length t
set_within t j pos s = go (dec_le j (16 * length t))
  where
    go : Dec (j ≤ 16 * length t) → j ≤ 16 * length t
    go (yes l) = l
    go (no g) = let z = parent_none t j (get_or-eq_default t 0 (omega arith)) in absurd (omega arith)

-- a multiple of 16 more is no other multiple of 16 or less
same_multiple : (a q i : ℕ) → a ≤ 4 → (16 * q + i) % 2 ^ a ≡ i % 2 ^ a
same_multiple zero q i h = omega arith
same_multiple (suc zero) q i h = omega arith
same_multiple (suc (suc zero)) q i h = omega arith
same_multiple (suc (suc (suc zero))) q i h = omega arith
same_multiple (suc (suc (suc (suc zero)))) q i h = omega arith
same_multiple (suc (suc (suc (suc (suc a))))) q i h = absurd (omega arith)

-- the first frame of word p is so many words of frames behind frame 0
first_frame : (t : List ℕ) (p i : ℕ) → Full (length t) → (length t - 1) / 16 ≤ p → 16 * p + 1 + i - length t ≡ 16 * (p - (length t - 1) / 16) + i
first_frame t p i f l = let w = full_whole (length t) f in omega arith

module _ (t : List ℕ) (n a p : ℕ) (full : Full (length t)) (some : 0 < n) (few : n ≤ 16) (small : a ≤ 4) (fits : get_or t p 0 < 65536) (c : Scanning t n a p) where
  -- set bits in a row are a run
  run_here : (i : ℕ) → i < 16 → i % 2 ^ a ≡ 0 → SetRun (get_or t p 0 + 65536 * get_or t (p + 1) 0) n i → Run t n a (16 * p + 1 + i - length t)
  run_here i l z s =
      let w = full_whole (length t) full in
      let lo = c.low in
      let last = set_within t (16 * p + 1 + (i + n - 1)) (omega arith) (pair_node t p (i + n - 1) fits (omega arith) ∙ s (i + n - 1) (omega arith) (omega arith)) in
      record {
        fits = omega arith;
        aligned = ap (λ (x : ℕ). x % 2 ^ a) (first_frame t p i full c.low) ∙ same_multiple a (p - (length t - 1) / 16) i small ∙ z;
        clear = λ m g h. at m (length t + m - (16 * p + 1)) (omega arith) (omega arith) (omega arith);
      }
    where
      at : (m j : ℕ) → length t + m ≡ 16 * p + 1 + j → i ≤ j → j < i + n → free t m ≡ 1
      at m j e g h = ap (node_bit t) e ∙ pair_node t p j fits (omega arith) ∙ s j g h

  -- a run that starts in word p is set bits in a row, at a multiple
  run_there : (x i : ℕ) → length t + x ≡ 16 * p + 1 + i → i < 16 → Run t n a x → (i % 2 ^ a ≡ 0) × SetRun (get_or t p 0 + 65536 * get_or t (p + 1) 0) n i
  run_there x i e l r =
      let w = full_whole (length t) full in
      let lo = c.low in
      let q : x ≡ 16 * (p - (length t - 1) / 16) + i = omega arith in (
        sym (same_multiple a (p - (length t - 1) / 16) i small) ∙ ap (λ (y : ℕ). y % 2 ^ a) (sym q) ∙ r.aligned,
        λ j g h. sym (pair_node t p j fits (omega arith))
            ∙ ap (node_bit t) (let z : 16 * p + 1 + j ≡ length t + (x + (j - i)) = omega arith in z) ∙ r.clear (x + (j - i)) (omega arith) (omega arith),
      )

  module _ (places m i : ℕ) (ms : Multiples a places) (s : Starts (get_or t p 0 + 65536 * get_or t (p + 1) 0) n places m) (l : Lowest m 0 i) where
    -- no run starts in word p before its lowest start
    before : (x : ℕ) → Run t n a x → 16 * p + 1 ≤ length t + x → 16 * p + 1 + i ≤ length t + x
    before x r g = go (dec_le (16 * p + 1 + i) (length t + x))
      where
        go : Dec (16 * p + 1 + i ≤ length t + x) → 16 * p + 1 + i ≤ length t + x
        go (yes y) = y
        go (no d) =
            let hi = l.high in
            let k : length t + x ≡ 16 * p + 1 + (length t + x - (16 * p + 1)) = omega arith in
            let r₂ = run_there x (length t + x - (16 * p + 1)) k (omega arith) r in
            let place = ms.all (length t + x - (16 * p + 1)) (omega arith) r₂.0 in
            let one = s.all (length t + x - (16 * p + 1)) (omega arith) place r₂.1 in
            let zero = l.before (length t + x - (16 * p + 1)) (omega arith) (omega arith) in
            absurd (omega arith)

    -- the lowest start in the word is the lowest run
    pub scan_found : i < 16 → LowestRun t n a (16 * p + 1 + i - length t)
    scan_found h =
        let set = lowest_set m l h in
        let place = ms.only i h (s.place i h set) in
        record {
          run = run_here i h place (s.only i h set);
          lowest = λ g x r. let b = before x r (c.none g x r) in omega arith;
        }

    -- no run starts in the word
    pub scan_next : i ≡ 16 → p < length t → GoesOn t n a p (p + 1)
    scan_next e h = record {
      more = omega arith;
      within = omega arith;
      next = record { low = let lo = c.low in omega arith; none = λ g x r. let b = before x r (c.none g x r) in omega arith };
    }

  -- the word is 0, and the next free frame is f
  pub scan_jump : (f : ℕ) → p < length t → get_or t p 0 ≡ 0 → IsNext t (16 * p + 1 - length t) f → GoesOn t n a p ((length t + f - 1) / 16)
  scan_jump f h z nx =
      let w = full_whole (length t) full in
      let lo = c.low in
      let from = nx.from in
      let within = nx.within in
      record {
        more = ahead (dec_le ((length t + f - 1) / 16) p);
        within = omega arith;
        next = record { low = omega arith; none = λ g x r. none g x r (dec_le f x) };
      }
    where
      ahead : Dec ((length t + f - 1) / 16 ≤ p) → p < (length t + f - 1) / 16
      ahead (no d) = omega arith
      ahead (yes l) =
          let w = full_whole (length t) full in
          let lo = c.low in
          let from = nx.from in
          let e : (length t + f - 1) / 16 ≡ p = omega arith in
          absurd (parent_some t (length t + f) nx.is (ap (λ (x : ℕ). get_or t x 0) e ∙ z))

      none : Agree t → (x : ℕ) → Run t n a x → Dec (f ≤ x) → 16 * ((length t + f - 1) / 16) + 1 ≤ length t + x
      none g x r (yes l) = let w = full_whole (length t) full in omega arith
      none g x r (no d) =
          let b = c.none g x r in
          let one = r.clear x (omega arith) (omega arith) in
          let zero = nx.first g x (omega arith) (omega arith) in
          absurd (omega arith)

  -- nothing is free from word p on
  scan_none : (Agree t → NoneFrom t (16 * p + 1 - length t)) → Agree t → (x : ℕ) → Run t n a x → ⊥
  scan_none none g x r =
      let b = c.none g x r in
      let e = r.fits in
      let one = r.clear x (omega arith) (omega arith) in
      let zero = none g x (omega arith) (omega arith) in
      omega arith

  -- why no frame was found is why no run is
  pub scan_err : (e : Missed) → NextSays t (16 * p + 1 - length t) (Err e) → LookSays t n a p (Err e)
  scan_err Nothing none = scan_none none
  scan_err Corrupt lie = lie

-- the first word of frames
pub scan_start : (t : List ℕ) (n a : ℕ) → Full (length t) → Scanning t n a ((length t - 1) / 16)
scan_start t n a f = record { low = omega arith; none = λ g x r. let w = full_whole (length t) f in omega arith }
