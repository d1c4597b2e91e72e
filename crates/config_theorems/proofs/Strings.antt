-- No configuration has two byte strings, and a table that `load` wrote is one that `encode` accepts. Bytes are numbers below 256.
-- Assumes nothing.
use mathlib.Core.Path.{◌≡◌, refl, sym, ap, ◌∙◌}
use mathlib.Core.List.{List}
use Prim.Native.Nat.{ℕ, zero, suc, ◌+◌, ◌-◌, ◌*◌, ◌/◌, ◌%◌, ◌≤◌, ◌<◌}
use native.Mathlib.Decide.{dec_lt}
use native.Mathlib.Omega.{arith}
use lib.ListN.{length, get_or, take}
use lib.Seq.{ext_get_or}
use Rattle.address.specs.declared.Region.{Region}
use Rattle.region_words.specs.Words.{number_of, region_of}
use Rattle.region_words.proofs.Laws.{region_back, number_back}
use Rattle.config_model.specs.Config.{Config, Same}
use Rattle.config_bytes.specs.Fields.{le16, le32, le64, region_at, machines, offset, count, tail, config_of, Means}
use Rattle.config_bytes.proofs.Laws.{offset_first, next_offset}
use Rattle.config_view.specs.Table.{Table, table_config, count_in, region_in}
use Rattle.config_write.proofs.Laws.{number_in_lem, count_in_lem, region_in_lem}
use Rattle.config.specs.Loading.{WasLoaded}
use Rattle.config.specs.Tables.{Writable}
use Rattle.config.specs.Encoding.{WasEncoded}
use Rattle.config_theorems.proofs.Round.{same_back, same_then, ok_same, table_same}

-- every number of s is a byte
abbrev pub Bytes : List ℕ → Type 0
Bytes s = (j : ℕ) → get_or s j 0 < 256

-- ---- a table that `load` wrote

small16 : (s : List ℕ) → Bytes s → (at : ℕ) → le16 s at < 65536
unfolding le16
small16 s b at = let x = b at in let y = b (at + 1) in omega arith

-- the configuration in the words of its table
pub table_config_lem : (c : Config) (t : List ℕ) → c.machines ≤ 64 → ((m : ℕ) → m < c.machines → c.count m ≤ 32) → ((m : ℕ) → m < c.machines → c.number m < 65536) → Table c t → Same (table_config t) c
unfolding region_of
table_config_lem c t few counts numbers x =
    let e = x.machines in
    record {
      machines = omega arith;
      number = λ m l. let k : m < c.machines = omega arith in let z = numbers m k in let q = x.number m (omega arith) ∙ sym (number_in_lem c m k) in omega arith;
      count = λ m l. let k : m < c.machines = omega arith in let z = counts m k in let q = x.count m (omega arith) ∙ sym (count_in_lem c m k) in omega arith;
      region =
          λ m i l h.
          let k : m < c.machines = omega arith in
          let z = counts m k in
          let q = x.count m (omega arith) ∙ sym (count_in_lem c m k) in
          let v : i < count_in c m = let w = count_in_lem c m k in omega arith in
          region_back t (130 * m + (2 + 4 * i)) (region_in c m i) (x.region m i (omega arith) (omega arith)) ∙ sym (region_in_lem c m i v);
      pool_host = x.pool.host;
      pool_pages = x.pool.pages;
    }

-- a table that was loaded can be written
pub loaded_same : (s t : List ℕ) (n : ℕ) (t' : List ℕ) → Bytes s → WasLoaded s t n t' → Same (table_config t') (config_of s)
loaded_same s t n t' b x =
    let r = x.right.means.readable in
    table_config_lem (config_of s) t' r.few (λ m l. (r.parts m l).few) (λ m l. small16 s b (offset s m)) x.is

pub loaded_writable : (s t : List ℕ) (n : ℕ) (t' : List ℕ) → Bytes s → WasLoaded s t n t' → Writable t'
loaded_writable s t n t' b x =
    let y = loaded_same s t n t' b x in record { table = table_same (same_back y) t' x.is; ok = ok_same (same_back y) x.right.ok }

-- ---- numbers that are the same have the same bytes

module _ (s t : List ℕ) (b : Bytes s) (d : Bytes t) where
  bytes16 : (at j : ℕ) → j < 2 → le16 s at ≡ le16 t at → get_or s (at + j) 0 ≡ get_or t (at + j) 0
  unfolding le16
  bytes16 at zero l e = let z : at + 0 ≡ at = omega arith in rw z (omega (arith, b at, b (at + 1), d at, d (at + 1)))
  bytes16 at (suc zero) l e = omega (arith, b at, b (at + 1), d at, d (at + 1))
  bytes16 at (suc (suc j)) l e = absurd (omega arith)

  halves32 : (at : ℕ) → le32 s at ≡ le32 t at → (le16 s at ≡ le16 t at) × (le16 s (at + 2) ≡ le16 t (at + 2))
  unfolding le32
  halves32 at e = omega (arith, small16 s b at, small16 t d at, small16 s b (at + 2), small16 t d (at + 2))

  bytes32 : (at j : ℕ) → j < 4 → le32 s at ≡ le32 t at → get_or s (at + j) 0 ≡ get_or t (at + j) 0
  bytes32 at j l e = go (dec_lt j 2)
    where
      go : Dec (j < 2) → get_or s (at + j) 0 ≡ get_or t (at + j) 0
      go (yes h) = bytes16 at j h (halves32 at e).0
      go (no n) = let z : at + j ≡ at + 2 + (j - 2) = omega (arith, n) in rw z (bytes16 (at + 2) (j - 2) (omega (arith, n)) (halves32 at e).1)

small32 : (s : List ℕ) → Bytes s → (at : ℕ) → le32 s at < 4294967296
unfolding le32
small32 s b at = omega (arith, small16 s b at, small16 s b (at + 2))

module _ (s t : List ℕ) (b : Bytes s) (d : Bytes t) where
  halves64 : (at : ℕ) → le64 s at ≡ le64 t at → (le32 s at ≡ le32 t at) × (le32 s (at + 4) ≡ le32 t (at + 4))
  unfolding le64
  halves64 at e = omega (arith, small32 s b at, small32 t d at, small32 s b (at + 4), small32 t d (at + 4))

  bytes64 : (at j : ℕ) → j < 8 → le64 s at ≡ le64 t at → get_or s (at + j) 0 ≡ get_or t (at + j) 0
  bytes64 at j l e = go (dec_lt j 4)
    where
      go : Dec (j < 4) → get_or s (at + j) 0 ≡ get_or t (at + j) 0
      go (yes h) = bytes32 s t b d at j h (halves64 at e).0
      go (no n) = let z : at + j ≡ at + 4 + (j - 4) = omega (arith, n) in rw z (bytes32 s t b d (at + 4) (j - 4) (omega (arith, n)) (halves64 at e).1)

-- ---- two byte strings of one configuration

module _ (s t : List ℕ) (b : Bytes s) (d : Bytes t) (x : Means s) (y : Means t) (c : Same (config_of s) (config_of t)) where
  number_one : machines s ≡ machines t
  number_one = c.machines

  place_one : (m : ℕ) → m ≤ machines s → offset s m ≡ offset t m
  place_one zero l = sym (offset_first s) ∙ offset_first t
  place_one (suc m) l =
      let e = place_one m (omega arith) in
      sym (next_offset s m (offset s m) refl) ∙ (ap (λ (n : ℕ). offset s m + (4 + 25 * n)) (c.count m l) ∙ (ap (λ (p : ℕ). p + (4 + 25 * count t m)) e ∙ next_offset t m (offset t m) refl))

  region_bytes : (m i j : ℕ) → m < machines s → i < count s m → j < 25 → get_or s (offset s m + (4 + 25 * i) + j) 0 ≡ get_or t (offset s m + (4 + 25 * i) + j) 0
  unfolding region_at
  region_bytes m i j l h k = go (dec_lt j 8) (dec_lt j 16) (dec_lt j 24)
    where
      r : region_at s (offset s m + (4 + 25 * i)) ≡ region_at t (offset s m + (4 + 25 * i))
      r = c.region m i l h ∙ ap (λ (q : ℕ). region_at t (q + (4 + 25 * i))) (sym (place_one m (omega arith)))

      kind_one : get_or s (offset s m + (4 + 25 * i) + 24) 0 ≡ get_or t (offset s m + (4 + 25 * i) + 24) 0
      kind_one =
          let u = (x.readable.parts m l).kinds i h in
          let v : get_or t (offset s m + (4 + 25 * i) + 24) 0 ≤ 2 =
          rw (place_one m (omega arith)) ((y.readable.parts m (rw (← number_one) l)).kinds i (rw (← c.count m l) h)) in
          sym (number_back _ u) ∙ (ap (λ (w : Region). number_of w.kind) r ∙ number_back _ v)

      go : Dec (j < 8) → Dec (j < 16) → Dec (j < 24) → get_or s (offset s m + (4 + 25 * i) + j) 0 ≡ get_or t (offset s m + (4 + 25 * i) + j) 0
      go (yes a) u v = bytes64 s t b d (offset s m + (4 + 25 * i)) j a (ap (λ (w : Region). w.guest) r)
      go (no a) (yes u) v =
          let z : offset s m + (4 + 25 * i) + j ≡ offset s m + (4 + 25 * i) + 8 + (j - 8) = omega (arith, a) in
          rw z (bytes64 s t b d (offset s m + (4 + 25 * i) + 8) (j - 8) (omega (arith, a)) (ap (λ (w : Region). w.host) r))
      go (no a) (no u) (yes v) =
          let z : offset s m + (4 + 25 * i) + j ≡ offset s m + (4 + 25 * i) + 16 + (j - 16) = omega (arith, u) in
          rw z (bytes64 s t b d (offset s m + (4 + 25 * i) + 16) (j - 16) (omega (arith, u)) (ap (λ (w : Region). w.pages) r))
      go (no a) (no u) (no v) = let z : j ≡ 24 = omega (arith, v) in rw z kind_one

  machine_bytes : (m q : ℕ) → m < machines s → q < 4 + 25 * count s m → get_or s (offset s m + q) 0 ≡ get_or t (offset s m + q) 0
  machine_bytes m q l h = go (dec_lt q 2) (dec_lt q 4)
    where
      go : Dec (q < 2) → Dec (q < 4) → get_or s (offset s m + q) 0 ≡ get_or t (offset s m + q) 0
      go (yes a) u = bytes16 s t b d (offset s m) q a (c.number m l ∙ ap (le16 t) (sym (place_one m (omega arith))))
      go (no a) (yes u) =
          let z : offset s m + q ≡ offset s m + 2 + (q - 2) = omega (arith, a) in
          rw z (bytes16 s t b d (offset s m + 2) (q - 2) (omega (arith, a)) (c.count m l ∙ ap (λ (k : ℕ). le16 t (k + 2)) (sym (place_one m (omega arith)))))
      go (no a) (no u) =
          let z : offset s m + q ≡ offset s m + (4 + 25 * ((q - 4) / 25)) + (q - 4) % 25 = omega (arith, u) in
          rw z (region_bytes m ((q - 4) / 25) ((q - 4) % 25) l (omega (arith, u)) (omega arith))

  before : (k : ℕ) → k ≤ machines s → (j : ℕ) → 2 ≤ j → j < offset s k → get_or s j 0 ≡ get_or t j 0
  before zero l j h g = absurd (let e = offset_first s in omega arith)
  before (suc k) l j h g = go (before k (omega arith) j h) (dec_lt j (offset s k))
    where
      go : (j < offset s k → get_or s j 0 ≡ get_or t j 0) → Dec (j < offset s k) → get_or s j 0 ≡ get_or t j 0
      go lower (yes a) = lower a
      go lower (no a) =
          let e = next_offset s k (offset s k) refl in
          let z : j ≡ offset s k + (j - offset s k) = omega (arith, a) in
          rw z (machine_bytes k (j - offset s k) l (omega (arith, a)))

  tail_one : tail s ≡ tail t
  tail_one = place_one (machines s) (omega arith) ∙ ap (offset t) number_one

  each_byte : (j : ℕ) → j < length s → get_or s j 0 ≡ get_or t j 0
  each_byte j l = go (dec_lt j 2) (dec_lt j (tail s)) (dec_lt j (tail s + 8))
    where
      go : Dec (j < 2) → Dec (j < tail s) → Dec (j < tail s + 8) → get_or s j 0 ≡ get_or t j 0
      go (yes a) u v = let z : j ≡ 0 + j = omega arith in rw z (bytes16 s t b d 0 j a number_one)
      go (no a) (yes u) v = before (machines s) (omega arith) j (omega (arith, a)) u
      go (no a) (no u) (yes v) =
          let z : j ≡ tail s + (j - tail s) = omega (arith, u) in
          rw z (bytes64 s t b d (tail s) (j - tail s) (omega (arith, u)) (c.pool_host ∙ ap (le64 t) (sym tail_one)))
      go (no a) (no u) (no v) =
          let e = x.exact in
          let z : j ≡ tail s + 8 + (j - (tail s + 8)) = omega (arith, v) in
          rw z (bytes64 s t b d (tail s + 8) (j - (tail s + 8)) (omega (arith, v)) (c.pool_pages ∙ ap (λ (k : ℕ). le64 t (k + 8)) (sym tail_one)))

  -- no configuration has two byte strings
  pub one_string : s ≡ t
  one_string = ext_get_or 0 s t (let e = x.exact in let f = y.exact in let g = tail_one in omega arith) each_byte

-- the bytes that `encode` writes of a table that was loaded are those that it was loaded from
pub encode_after_load : (s t : List ℕ) (n : ℕ) (t' o : List ℕ) (k : ℕ) (o' : List ℕ) → Bytes s → Bytes (take k o') → WasLoaded s t n t' → WasEncoded t' o k o' → take k o' ≡ s
encode_after_load s t n t' o k o' b d x y =
    one_string (take k o') s d b y.means x.right.means (same_then y.same (loaded_same s t n t' b x))
