-- The laws of runs: rounding up, alignments, and the window that goes on behind its last taken frame. Assumes nothing.
use mathlib.Core.Path.{◌≡◌, refl, sym, ap, ◌∙◌}
use mathlib.Core.List.{List}
use Prim.Native.Nat.{ℕ, ◌+◌, ◌-◌, ◌*◌, ◌/◌, ◌%◌, ◌^◌, ◌≤◌, ◌<◌, min, max}
use native.Mathlib.Nat.{div-add-mod', mod-lt, mod-eq_of_lt, mul-mod_left, mul-le-mul_right, lt_of_mul-lt-mul_right, suc-mul, one-mul}
use native.Mathlib.Decide.{dec_le, dec_lt}
use native.Mathlib.Omega.{arith}
use lib.ListN.{length, get_or}
use lib.Dec.{lit<}
use lib.Pow.{pow_pos, pow_mono, shl_exact}
use Rattle.base.specs.Search.{Since}
use Rattle.bits16.specs.Bits.{bit, SetSince}
use Rattle.bits16.proofs.Lengths.{full_bit}
use Rattle.bitmap_tree.specs.Tree.{node_bit, cap, Full, Agree}
use Rattle.bitmap_tree.proofs.Nodes.{bit_in}
use Rattle.bitmap_tree.proofs.Fullness.{pow_le}
use Rattle.bitmap_search.specs.Found.{IsNext}
use Rattle.bitmap_runs.specs.Runs.{Run, LowestRun, Rounded}

-- ---- alignment

-- the next multiple of al
pub rounded : (f al : ℕ) → 0 < al → Rounded f al ((f + (al - 1)) / al * al)
rounded f al pos =
    let g = div-add-mod' (f + (al - 1)) al in
    let lt = mod-lt (f + (al - 1)) pos in
    record {
      low = omega arith;
      small = omega arith;
      aligned = mul-mod_left ((f + (al - 1)) / al) al;
      least = λ x l z. least x l z (dec_lt x ((f + (al - 1)) / al * al));
    }
  where
    least : (x : ℕ) → f ≤ x → x % al ≡ 0 → Dec (x < (f + (al - 1)) / al * al) → (f + (al - 1)) / al * al ≤ x
    least x l z (no d) = omega arith
    least x l z (yes d) =
        let g = div-add-mod' (f + (al - 1)) al in
        let h = div-add-mod' x al in
        let less : x / al < (f + (al - 1)) / al = lt_of_mul-lt-mul_right al (omega arith) in
        let m = mul-le-mul_right al less in
        let e = suc-mul (x / al) al in
        absurd (omega arith)

-- one, shifted as the machine does it
pub one_shifted : (e : ℕ) → e ≤ 60 → (1 * 2 ^ e) % 2 ^ 64 ≡ 2 ^ e
one_shifted e l = shl_exact {a = 1} 1 e 64 (lit< tt) (omega arith) ∙ one-mul (2 ^ e)

-- a shift to the right and back, as the machine does it
pub shifted : (f e : ℕ) → f < 2 ^ 61 → e ≤ 60 → Rounded f (2 ^ e) (((f + ((1 * 2 ^ e) % 2 ^ 64 - 1)) / 2 ^ e * 2 ^ e) % 2 ^ 64)
shifted f e h l =
    let one = one_shifted e l in
    let big = pow_mono {i = e} {j = 60} l in
    let r = rounded f (2 ^ e) (pow_pos e) in
    let s = r.small in
    let fits : (f + (2 ^ e - 1)) / 2 ^ e * 2 ^ e < 2 ^ 64 = omega arith in
    rw (one, mod-eq_of_lt fits) r

-- below 2 ^ 60, the multiples of 2 ^ a are those of the lesser of 2 ^ a and 2 ^ 60
pub same_multiples : (a x : ℕ) → x < 2 ^ 60 → x % 2 ^ min a 60 ≡ x % 2 ^ a
same_multiples a x h = go (dec_le a 60)
  where
    go : Dec (a ≤ 60) → x % 2 ^ min a 60 ≡ x % 2 ^ a
    go (yes l) = ap (λ (e : ℕ). x % 2 ^ e) (let z : min a 60 ≡ a = omega arith in z)
    go (no g) =
        let z : min a 60 ≡ 60 = omega arith in
        let big = pow_mono {i = 60} {j = a} (omega arith) in
        ap (λ (e : ℕ). x % 2 ^ e) z ∙ mod-eq_of_lt h ∙ sym (mod-eq_of_lt (omega arith))

-- a full tree has no more than 2 ^ 60 frames
pub cap_bound : (t : List ℕ) → Full (length t) → cap t ≤ 2 ^ 60
cap_bound t f = let a = pow_le f.depth 15 f.few in let e = f.count in omega arith

-- ---- the window, looked at from its end

-- at node e on the way back from b to a: everything passed is set
pub record Backing (t : List ℕ) (a b e : ℕ) : Type 0 where
  pub pos : 0 < e
  pub high : e ≤ b
  pub rest : (k : ℕ) → a ≤ k → e ≤ k → k < b → node_bit t k ≡ 1

module _ (t : List ℕ) (a b e i : ℕ) (pos : 0 < a) (more : a < e) (c : Backing t a b e) (s : SetSince (get_or t ((e - 2) / 16) 0) ((e - 2) % 16 + 1) i) where
  -- one word further back
  pub back_step : Backing t a b (16 * ((e - 2) / 16) + 1 + i)
  back_step =
      let x = c.high in
      let y = s.high in
      record { pos = omega arith; high = omega arith; rest = λ k l g h. rest k l g h (dec_le e k) }
    where
      rest : (k : ℕ) → a ≤ k → 16 * ((e - 2) / 16) + 1 + i ≤ k → k < b → Dec (e ≤ k) → node_bit t k ≡ 1
      rest k l g h (yes q) = c.rest k l q h
      rest k l g h (no q) =
          let p : (k - 1) / 16 ≡ (e - 2) / 16 = omega arith in
          bit_in t k ((e - 2) / 16) p ∙ s.after ((k - 1) % 16) (omega arith) (omega arith)

  -- the node before the set bits of the word is not set
  pub back_stop : a ≤ b → 0 < i → Since (λ (j : ℕ). node_bit t j ≡ 1) a b (max a (16 * ((e - 2) / 16) + 1 + i))
  back_stop ab some =
      let n = back_step in
      let x = n.high in
      record {
        low = omega arith;
        high = omega arith;
        after = λ k g h. n.rest k (omega arith) (omega arith) h;
        fails = λ l set.
            let y = s.high in
            let p : (max a (16 * ((e - 2) / 16) + 1 + i) - 1 - 1) / 16 ≡ (e - 2) / 16 = omega arith in
            let q : (max a (16 * ((e - 2) / 16) + 1 + i) - 1 - 1) % 16 ≡ i - 1 = omega arith in
            s.fails some (ap (bit (get_or t ((e - 2) / 16) 0)) (sym q) ∙ sym (bit_in t (max a (16 * ((e - 2) / 16) + 1 + i) - 1) ((e - 2) / 16) p) ∙ set);
      }

-- full words further back
pub back_full : (t : List ℕ) (a b p r : ℕ) → (a - 1) / 16 ≤ p → Backing t a b (16 * p + 1 + 0) → Since (λ (n : ℕ). get_or t n 0 ≡ 65535) ((a - 1) / 16) p r → Backing t a b (16 * r + 1)
back_full t a b p r o c s =
    let h = s.high in
    let x = c.high in
    record { pos = omega arith; high = omega arith; rest = λ k l g i. rest k l g i (dec_le (16 * p + 1 + 0) k) }
  where
    rest : (k : ℕ) → a ≤ k → 16 * r + 1 ≤ k → k < b → Dec (16 * p + 1 + 0 ≤ k) → node_bit t k ≡ 1
    rest k l g i (yes q) = c.rest k l q i
    rest k l g i (no q) =
        bit_in t k ((k - 1) / 16) refl ∙ ap (λ (x : ℕ). bit x ((k - 1) % 16)) (s.after ((k - 1) / 16) (omega arith) (omega arith))
        ∙ full_bit ((k - 1) % 16) (omega arith)

-- everything from a on is set
pub back_done : (t : List ℕ) (a b e : ℕ) → a ≤ b → e ≤ a → Backing t a b e → Since (λ (j : ℕ). node_bit t j ≡ 1) a b a
back_done t a b e l h c = record { low = omega arith; high = l; after = λ k g i. c.rest k g (omega arith) i; fails = λ x y. omega arith }

-- ---- the search for a run

-- where the summaries agree, no run starts before k
pub record Searching (t : List ℕ) (n a k : ℕ) : Type 0 where
  pub top : k ≤ cap t
  pub none : Agree t → (x : ℕ) → Run t n a x → k ≤ x

module _ (t : List ℕ) (n a k f s : ℕ) (full : Full (length t)) (some : 0 < n) (c : Searching t n a k) (rd : Rounded f (2 ^ min a 60) s) (nx : IsNext t k f) where
  -- a run starts at a free frame, and at a multiple
  pub from_next : Agree t → (x : ℕ) → Run t n a x → s ≤ x
  from_next g x r = rd.least x (go (dec_le f x)) (same_multiples a x below ∙ r.aligned)
    where
      below : x < 2 ^ 60
      below = let b = cap_bound t full in let e = r.fits in omega arith

      go : Dec (f ≤ x) → f ≤ x
      go (yes l) = l
      go (no l) =
          let one = r.clear x (omega arith) (omega arith) in
          let zero = nx.first g x (c.none g x r) (omega arith) in
          absurd (omega arith)

  -- a multiple that ends past the frames has none behind it
  pub too_far : cap t < s + n → Agree t → (x : ℕ) → Run t n a x → ⊥
  too_far h g x r = let l = from_next g x r in let e = r.fits in omega arith

  module _ (fits : s + n ≤ cap t) (q : ℕ) (y : Since (λ (j : ℕ). node_bit t j ≡ 1) (length t + s) (length t + s + n) q) where
    -- the window is free
    pub found_run : q - length t ≡ s → LowestRun t n a s
    found_run e =
        let b = cap_bound t full in
        let lo = y.low in
        record {
          run = record {
            fits = fits;
            aligned = sym (same_multiples a s (omega arith)) ∙ rd.aligned;
            clear = λ m l h. y.after (length t + m) (omega arith) (omega arith);
          };
          lowest = from_next;
        }

    -- the search goes on behind the last taken frame of the window
    pub search_step : (q - length t ≡ s → ⊥) → Searching t n a (q - length t)
    search_step ne =
        let hi = y.high in
        record { top = omega arith; none = λ g x r. go g x r (dec_le (q - length t) x) }
      where
        go : Agree t → (x : ℕ) → Run t n a x → Dec (q - length t ≤ x) → q - length t ≤ x
        go g x r (yes l) = l
        go g x r (no l) =
            let lo = y.low in
            let hi = y.high in
            let first = from_next g x r in
            let past : length t + s < q = omega (arith, ne) in
            let back : length t + (q - 1 - length t) ≡ q - 1 = omega arith in
            let one : node_bit t (q - 1) ≡ 1 = rw back at (r.clear (q - 1 - length t) (omega arith) (omega arith)) in
            absurd (y.fails past one)
