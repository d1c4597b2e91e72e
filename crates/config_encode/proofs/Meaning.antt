-- The bytes that are written of a configuration mean that configuration. Assumes nothing.
use mathlib.Core.Path.{◌≡◌, sym, ap, ◌∙◌}
use mathlib.Core.List.{List}
use Prim.Native.Nat.{ℕ, zero, suc, ◌+◌, ◌*◌, ◌≤◌, ◌<◌}
use native.Mathlib.Omega.{arith}
use lib.ListN.{length, get_or}
use Rattle.region_words.specs.Words.{kind_of}
use Rattle.region_words.proofs.Laws.{region_once, kind_back, number_small}
use Rattle.config_model.specs.Config.{Config, Same}
use Rattle.config_bytes.specs.Fields.{le16, le32, le64, region_at, machines, offset, count, tail, config_of, Part, Means}
use Rattle.config_bytes.proofs.Laws.{offset_first, next_offset}
use Rattle.config_encode.specs.Encoding.{Encodes, start_of, size_of}
use Rattle.config_encode.proofs.Laws.{start_first, start_next, start_grows}

-- s are the bytes that o has for c
module _ (c : Config) (o s : List ℕ) (few : c.machines ≤ 64) (counts : (m : ℕ) → m < c.machines → c.count m ≤ 32) (x : Encodes c o)
    (long : length s ≡ size_of c) (same : (j : ℕ) → j < size_of c → get_or s j 0 ≡ get_or o j 0) where
  same16 : (at : ℕ) → at + 2 ≤ size_of c → le16 s at ≡ le16 o at
  unfolding le16
  same16 at l = let p = same at (omega arith) in let q = same (at + 1) (omega arith) in omega arith

  same32 : (at : ℕ) → at + 4 ≤ size_of c → le32 s at ≡ le32 o at
  unfolding le32
  same32 at l = let p = same16 at (omega arith) in let q = same16 (at + 2) (omega arith) in omega arith

  same64 : (at : ℕ) → at + 8 ≤ size_of c → le64 s at ≡ le64 o at
  unfolding le64
  same64 at l = let p = same32 at (omega arith) in let q = same32 (at + 4) (omega arith) in omega arith

  -- the fields of machine m end within the bytes
  room : (m : ℕ) → m < c.machines → start_of c m + (4 + 25 * c.count m) + 16 ≤ size_of c
  room m l = let g = start_grows c (suc m) c.machines l in let n = start_next c m in omega arith

  number_is : machines s ≡ c.machines
  number_is = same16 0 (omega arith) ∙ x.machines

  place_is : (m : ℕ) → m ≤ c.machines → offset s m ≡ start_of c m
  place_is zero l = sym (offset_first s) ∙ start_first c
  place_is (suc m) l =
      let e = place_is m (omega arith) in
      let r = room m l in
      let k = same16 (start_of c m + 2) (omega arith) ∙ (x.each m l).count in
      sym (next_offset s m (start_of c m) (sym e)) ∙ (ap (λ (n : ℕ). start_of c m + (4 + 25 * n)) k ∙ sym (start_next c m))

  count_is : (m : ℕ) → m < c.machines → count s m ≡ c.count m
  count_is m l = let r = room m l in ap (λ (p : ℕ). le16 s (p + 2)) (place_is m (omega arith)) ∙ (same16 (start_of c m + 2) (omega arith) ∙ (x.each m l).count)

  region_place : (m i : ℕ) → m < c.machines → offset s m + (4 + 25 * i) ≡ start_of c m + (4 + 25 * i)
  region_place m i l = ap (λ (p : ℕ). p + (4 + 25 * i)) (place_is m (omega arith))

  region_is : (m i : ℕ) → m < c.machines → i < c.count m → region_at s (offset s m + (4 + 25 * i)) ≡ c.region m i
  unfolding region_at
  region_is m i l h =
      let r = room m l in
      let b = (x.each m l).regions i h in
      let p = start_of c m + (4 + 25 * i) in
      ap (region_at s) (region_place m i l)
      ∙ region_once (region_at s p) (c.region m i) (same64 p (omega arith) ∙ b.guest) (same64 (p + 8) (omega arith) ∙ b.host) (same64 (p + 16) (omega arith) ∙ b.pages)
      (ap kind_of (same (p + 24) (omega arith) ∙ b.kind) ∙ kind_back (c.region m i).kind)

  part_is : (m : ℕ) → m < c.machines → Part s m
  part_is m l =
      let r = room m l in
      let k = count_is m l in
      record {
        few = rw k (counts m l);
        whole = let e = place_is (suc m) l in let n = start_next c m in omega arith;
        kinds =
            λ i h.
            let j : i < c.count m = rw k at h in
            let e = region_place m i l in
            let q = same (start_of c m + (4 + 25 * i) + 24) (omega arith) ∙ ((x.each m l).regions i j).kind in
            let z = number_small (c.region m i).kind in
            rw e (omega arith);
      }

  tail_is : tail s ≡ start_of c c.machines
  tail_is = ap (offset s) number_is ∙ place_is c.machines (omega arith)

  pub means_it : Means s
  means_it =
      record {
        readable = record { few = rw number_is few; parts = λ m l. part_is m (rw number_is at l); pool = omega (arith, tail_is) };
        exact = omega (arith, tail_is);
      }

  pub same_config : Same (config_of s) c
  same_config =
      record {
        machines = number_is;
        number =
            λ m l.
            let k : m < c.machines = rw number_is at l in
            let r = room m k in ap (le16 s) (place_is m (omega arith)) ∙ (same16 (start_of c m) (omega arith) ∙ (x.each m k).number);
        count = λ m l. count_is m (rw number_is at l);
        region = λ m i l h. let k : m < c.machines = rw number_is at l in region_is m i k (rw (count_is m k) at h);
        pool_host = ap (le64 s) tail_is ∙ (same64 (start_of c c.machines) (omega arith) ∙ x.host);
        pool_pages = ap (λ (p : ℕ). le64 s (p + 8)) tail_is ∙ (same64 (start_of c c.machines + 8) (omega arith) ∙ x.pages);
      }
