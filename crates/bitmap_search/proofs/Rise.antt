-- The way up from a frame, past words with no set bit behind it, until a descent can begin. Assumes nothing.
use mathlib.Core.Path.{◌≡◌, refl, sym, ap, ◌∙◌}
use mathlib.Core.List.{List}
use Prim.Native.Nat.{ℕ, zero, suc, ◌+◌, ◌-◌, ◌*◌, ◌/◌, ◌%◌, ◌^◌, ◌≤◌, ◌<◌}
use native.Mathlib.Nat.{add-zero}
use native.Mathlib.Decide.{dec_le}
use native.Mathlib.Numerals.{add-one}
use native.Mathlib.Omega.{arith}
use lib.ListN.{length, get_or}
use Rattle.bits16.specs.Bits.{Lowest}
use Rattle.bitmap_tree.specs.Tree.{node_bit, Full, Agree}
use Rattle.bitmap_tree.proofs.Nodes.{bit_in, bit_clear}
use Rattle.bitmap_tree.proofs.Fullness.{level_next, level_exists}
use Rattle.bitmap_search.specs.Heights.{up, Height, Under}
use Rattle.bitmap_search.specs.Found.{IsNext}
use Rattle.bitmap_search.proofs.Heights.{up_set, up_row}

-- at node n of a row that ends before node e, on the way up from the frame's node j: what is not before n is not before j, and where
-- the summaries agree, the other way round for set frames
pub record Rising (t : List ℕ) (j n e : ℕ) : Type 0 where
  pub h : ℕ
  pub first : ℕ
  pub depth : ℕ
  pub count : 15 * first + 1 ≡ 16 ^ depth
  pub whole : 15 * length t + 1 ≡ 16 ^ (depth + h)
  pub end : e ≡ 16 * first + 1
  pub pos : 0 < n
  pub low : first ≤ n
  pub high : n ≤ e
  pub top : e ≤ 16 * length t + 1
  pub from : (m : ℕ) → n ≤ up h m → j ≤ m
  pub keep : Agree t → (m : ℕ) → length t ≤ m → m ≤ 16 * length t → node_bit t m ≡ 1 → j ≤ m → n ≤ up h m

pub rise_start : (t : List ℕ) (j : ℕ) → Full (length t) → 0 < j → length t ≤ j → j ≤ 16 * length t → Rising t j j (16 * length t + 1)
unfolding up
rise_start t j f p l u = record {
  h = 0;
  first = length t;
  depth = f.depth;
  count = f.count;
  whole = f.count ∙ ap (λ (x : ℕ). 16 ^ x) (sym (add-zero f.depth));
  end = refl;
  pos = p;
  low = l;
  high = omega arith;
  top = omega arith;
  from = λ m x. x;
  keep = λ a m b c s x. x;
}

module _ (t : List ℕ) (j n e i : ℕ) (more : n < e) (r : Rising t j n e) (l : Lowest (get_or t ((n - 1) / 16) 0) ((n - 1) % 16) i) where
  -- what is set and not before n is not before the lowest set bit of n's word from n on
  past : Agree t → (m : ℕ) → length t ≤ m → m ≤ 16 * length t → node_bit t m ≡ 1 → j ≤ m → 16 * ((n - 1) / 16) + 1 + i ≤ up r.h m
  past a m b c s x = go (r.keep a m b c s x) (dec_le (16 * ((n - 1) / 16) + 1 + i) (up r.h m))
    where
      go : n ≤ up r.h m → Dec (16 * ((n - 1) / 16) + 1 + i ≤ up r.h m) → 16 * ((n - 1) / 16) + 1 + i ≤ up r.h m
      go y (yes z) = z
      go y (no z) =
          let q = r.pos in
          let v = l.high in
          let p : (up r.h m - 1) / 16 ≡ (n - 1) / 16 = omega arith in
          let one = up_set t m r.h a c s (omega arith) in
          let none : node_bit t (up r.h m) ≡ 0 = bit_in t (up r.h m) ((n - 1) / 16) p ∙ l.before ((up r.h m - 1) % 16) (omega arith) (omega arith) in
          absurd (omega arith)

  -- one word further up, where n's word has no set bit from n on
  pub rise_step : i ≡ 16 → Rising t j ((n - 1) / 16 + 1) ((e - 1) / 16)
  unfolding up
  rise_step full = go r.depth r.count r.whole
    where
      go : (d : ℕ) → 15 * r.first + 1 ≡ 16 ^ d → 15 * length t + 1 ≡ 16 ^ (d + r.h) → Rising t j ((n - 1) / 16 + 1) ((e - 1) / 16)
      go zero c v = let a = r.pos in let b = r.end in absurd (omega arith)
      go (suc d) c v =
          let x = level_exists d in
          let y : 15 * (16 * x.0 + 1) + 1 ≡ 16 ^ suc d = level_next x.0 d x.1 ∙ ap (λ (x : ℕ). 16 ^ x) (add-one d) in
          let f : r.first ≡ 16 * x.0 + 1 = omega arith in
          let a = r.pos in
          let b = r.end in
          let lo = r.low in
          let tp = r.top in
          record {
            h = suc r.h;
            first = x.0;
            depth = d;
            count = x.1;
            whole = v ∙ ap (λ (x : ℕ). 16 ^ x) (let z : suc d + r.h ≡ d + suc r.h = omega arith in z);
            end = omega arith;
            pos = omega arith;
            low = omega arith;
            high = omega arith;
            top = omega arith;
            from = λ m z. r.from m (omega arith);
            keep = λ a m u k s z. let g = past a m u k s z in omega arith;
          }

  found_height : i < 16 → Height (length t) (16 * ((n - 1) / 16) + 1 + i) r.h
  found_height some =
      let b = r.end in
      let lo = r.low in
      let il = l.low in
      let a = r.pos in
      record { first = r.first; depth = r.depth; count = r.count; whole = r.whole; low = omega arith; high = omega arith }

  -- the frame under the lowest set bit from n on is the next one
  pub found_next : (k f : ℕ) → length t + k ≡ j → i < 16 → Under t (16 * ((n - 1) / 16) + 1 + i) f → IsNext t k (f - length t)
  found_next k f ej some u =
      let lo = u.low in
      let hi = u.high in
      let il = l.low in
      let a = r.pos in
      let back : length t + (f - length t) ≡ f = omega arith in
      let reach = u.from r.h (found_height some) in
      let ge = r.from f (omega arith) in
      record {
        within = omega arith;
        from = omega arith;
        is = rw back u.set;
        first = λ a m g h. bit_clear t (length t + m) (λ s.
            let z = past a (length t + m) (omega arith) (omega arith) s (omega arith) in
            let b = u.first r.h (found_height some) a (length t + m) (omega arith) (omega arith) s z in
            omega arith);
      }

-- where the row ends nothing from j on is free
pub rise_done : (t : List ℕ) (j n e : ℕ) → Rising t j n e → e ≤ n → Agree t → (m : ℕ) → length t ≤ m → m ≤ 16 * length t → j ≤ m → node_bit t m ≡ 0
rise_done t j n e r x a m lo hi g = bit_clear t m (λ s.
    let k = r.keep a m lo hi s g in
    let b = up_row (length t) r.first r.depth r.h m r.count r.whole lo hi in
    let c = r.end in
    omega arith)
