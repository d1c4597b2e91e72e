-- The way down from a node under which something is free, by the lowest set bit of each word. Assumes nothing.
use mathlib.Core.Path.{◌≡◌, refl, ◌∙◌}
use mathlib.Core.List.{List}
use Prim.Native.Nat.{ℕ, zero, suc, ◌+◌, ◌-◌, ◌*◌, ◌/◌, ◌%◌, ◌≤◌, ◌<◌}
use native.Mathlib.Decide.{dec_le}
use native.Mathlib.Omega.{arith}
use lib.ListN.{length, get_or}
use Rattle.bits16.specs.Bits.{Lowest}
use Rattle.bits16.proofs.Laws.{lowest_set}
use Rattle.bitmap_tree.specs.Tree.{node_bit, Full, Agree}
use Rattle.bitmap_tree.proofs.Nodes.{child_bit, bit_in, bit_clear}
use Rattle.bitmap_tree.proofs.Fullness.{full_bound, level_next}
use Rattle.bitmap_tree.proofs.Summaries.{root_none, set_some}
use Rattle.bitmap_search.specs.Heights.{up, Height, Some, Under}
use Rattle.bitmap_search.specs.Found.{IsNext, NoneFrom}
use Rattle.bitmap_search.proofs.Heights.{up_set, up_row, deeper, at_bottom, not_bottom, child_height, root_height}

-- node n stands under n₀ or under a node behind it: what is not before n is not before n₀, and where the summaries agree, the other way
-- round for set frames
pub record Lower (t : List ℕ) (n₀ n h : ℕ) : Type 0 where
  pub g : ℕ
  pub at : Height (length t) n g
  pub back : (m : ℕ) → n ≤ up g m → n₀ ≤ up h m
  pub keep : Agree t → (m : ℕ) → length t ≤ m → m ≤ 16 * length t → node_bit t m ≡ 1 → n₀ ≤ up h m → n ≤ up g m

-- on the way down from n₀, at n
pub record Descending (t : List ℕ) (n₀ n : ℕ) : Type 0 where
  pub high : n ≤ 16 * length t
  pub some : Some t n
  pub low : (h : ℕ) → Height (length t) n₀ h → Lower t n₀ n h

module _ (t : List ℕ) (n₀ n i : ℕ) (inside : n < length t) (l : Lowest (get_or t n 0) 0 i) (some : i < 16) where
  lower_step : (h g : ℕ) → Height (length t) n g → ((m : ℕ) → n ≤ up g m → n₀ ≤ up h m)
      → (Agree t → (m : ℕ) → length t ≤ m → m ≤ 16 * length t → node_bit t m ≡ 1 → n₀ ≤ up h m → n ≤ up g m) → Lower t n₀ (16 * n + 1 + i) h
  unfolding up
  lower_step h zero a back keep = absurd (not_bottom (length t) n a inside)
  lower_step h (suc g) a back keep = record {
    g = g;
    at = child_height (length t) n g i some a;
    back = λ m x. back m (omega arith);
    keep = λ w m c b s x. kept w m c b s (keep w m c b s x) (dec_le (16 * n + 1 + i) (up g m));
  }
    where
      kept : Agree t → (m : ℕ) → length t ≤ m → m ≤ 16 * length t → node_bit t m ≡ 1 → n ≤ (up g m - 1) / 16 → Dec (16 * n + 1 + i ≤ up g m) → 16 * n + 1 + i ≤ up g m
      kept w m c b s x (yes y) = y
      kept w m c b s x (no y) =
          let row = up_row (length t) (16 * a.first + 1) (a.depth + 1) g m (level_next a.first a.depth a.count) (a.whole ∙ deeper a.depth g) c b in
          let p : (up g m - 1) / 16 ≡ n = omega arith in
          let one = up_set t m g w b s (omega arith) in
          let none : node_bit t (up g m) ≡ 0 = bit_in t (up g m) n p ∙ l.before ((up g m - 1) % 16) (omega arith) (omega arith) in
          absurd (omega arith)

  -- one word further down
  pub descend_step : Descending t n₀ n → Descending t n₀ (16 * n + 1 + i)
  descend_step d = record {
    high = omega arith;
    some = record { set = λ _. child_bit t n i some ∙ lowest_set (get_or t n 0) l some; root = λ e. absurd (omega arith) };
    low = λ h a. let e = d.low h a in lower_step h e.g e.at e.back e.keep;
  }

-- the descent ends at a frame
pub descend_done : (t : List ℕ) (n₀ n : ℕ) → Descending t n₀ n → 0 < length t → length t ≤ n → Under t n₀ n
unfolding up
descend_done t n₀ n d p l = record {
  low = l;
  high = d.high;
  set = d.some.set (omega arith);
  from = λ h a. from h (d.low h a);
  first = λ h a w m lo hi s x. first h (d.low h a) w m lo hi s x;
}
  where
    from : (h : ℕ) → Lower t n₀ n h → n₀ ≤ up h n
    from h e = e.back n (rw (at_bottom _ n e.g e.at l) (omega arith))

    first : (h : ℕ) → Lower t n₀ n h → Agree t → (m : ℕ) → length t ≤ m → m ≤ 16 * length t → node_bit t m ≡ 1 → n₀ ≤ up h m → n ≤ m
    first h e w m lo hi s x = let y = e.keep w m lo hi s x in rw (at_bottom _ n e.g e.at l) at y

-- where the summaries agree, no word on the way down is 0
pub never_none : (t : List ℕ) (n₀ n : ℕ) → Descending t n₀ n → n < length t → Agree t → get_or t n 0 ≡ 0 → ⊥
never_none t n₀ zero d l a e = d.some.root refl e
never_none t n₀ (suc n) d l a e = set_some t (suc n) a (omega arith) l (d.some.set (omega arith)) e

-- where the root is 0 no frame is free
pub root_says_none : (t : List ℕ) → Full (length t) → get_or t 0 0 ≡ 0 → Agree t → NoneFrom t 0
root_says_none t f e a m l h = let b = full_bound (length t) f in root_none t a e (length t + m) (omega arith) (omega arith)

-- the lowest frame under the root is the lowest of all
pub under_root : (t : List ℕ) (r : ℕ) → Full (length t) → Under t 0 r → IsNext t 0 (r - length t)
under_root t r f u =
    let lo = u.low in
    let hi = u.high in
    let e : length t + (r - length t) ≡ r = omega arith in
    record {
      within = omega arith;
      from = omega arith;
      is = rw e u.set;
      first = λ a m g l. bit_clear t (length t + m) (λ s.
          let b = u.first f.depth (root_height (length t) f) a (length t + m) (omega arith) (omega arith) s (omega arith) in
          omega arith);
    }
