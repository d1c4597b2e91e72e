-- The configurations of the examples as bytes, for all numbers and regions in them. Assumes nothing.
use mathlib.Core.Path.{◌≡◌, refl}
use mathlib.Core.List.{List, [], ◌∷◌}
use Prim.Native.Nat.{ℕ, ◌+◌, ◌*◌, ◌/◌, ◌%◌, ◌≤◌, ◌<◌}
use native.Mathlib.Omega.{arith}
use lib.Dec.{lit≤}
use lib.ListN.{get_or}
use Rattle.address.specs.declared.Region.{Region}
use Rattle.region_words.specs.Words.{number_of}
use Rattle.region_words.proofs.Laws.{region_once, kind_back, number_small}
use Rattle.config_model.specs.Config.{Same}
use Rattle.config_bytes.specs.Fields.{le16, le32, le64, region_at, offset, config_of, Part, Means}
use Rattle.config_examples.proofs.Pairs.{fork, two, one, below_one, below_two}

-- ---- fields before further bytes

-- a number in 2, 4 and 8 bytes
abbrev pub put16 : ℕ → List ℕ → List ℕ
put16 n s = n % 256 ∷ n / 256 ∷ s

abbrev pub put32 : ℕ → List ℕ → List ℕ
put32 n s = put16 (n % 65536) (put16 (n / 65536) s)

abbrev pub put64 : ℕ → List ℕ → List ℕ
put64 n s = put32 (n % 4294967296) (put32 (n / 4294967296) s)

-- a region in 25
abbrev pub put_region : Region → List ℕ → List ℕ
put_region r s = put64 r.guest (put64 r.host (put64 r.pages (number_of r.kind ∷ s)))

-- the allocator's region, at the end
abbrev pub put_pool : ℕ → ℕ → List ℕ
put_pool host pages = put64 host (put64 pages [])

-- the number in the 8 bytes
back64 : (n : ℕ) (s : List ℕ) → le64 (put64 n s) 0 ≡ n
unfolding le64 le32 le16
back64 n s = omega arith

-- ---- the bytes

-- of two machines with one region each, and of one with two
abbrev pub two_bytes : ℕ → ℕ → Region → Region → ℕ → ℕ → List ℕ
two_bytes n n' a b host pages = put16 2 (put16 n (put16 1 (put_region a (put16 n' (put16 1 (put_region b (put_pool host pages)))))))

abbrev pub one_bytes : ℕ → Region → Region → ℕ → ℕ → List ℕ
one_bytes n a b host pages = put16 1 (put16 n (put16 2 (put_region a (put_region b (put_pool host pages)))))

-- ---- what they mean

module _ (n n' : ℕ) (a b : Region) (host pages : ℕ) where
  -- the bytes of two machines mean a configuration, and it is that one
  pub two_means : Means (two_bytes n n' a b host pages)
  unfolding le16 offset
  two_means =
      let s = two_bytes n n' a b host pages in
      record {
        readable =
            record {
              few = lit≤ tt;
              parts =
                  below_two (Part s)
                  (record { few = lit≤ tt; whole = lit≤ tt; kinds = below_one (λ i. get_or s (2 + (4 + 25 * i) + 24) 0 ≤ 2) (number_small a.kind) })
                  (record { few = lit≤ tt; whole = lit≤ tt; kinds = below_one (λ i. get_or s (31 + (4 + 25 * i) + 24) 0 ≤ 2) (number_small b.kind) });
              pool = lit≤ tt;
            };
        exact = refl;
      }

  pub two_same : Same (config_of (two_bytes n n' a b host pages)) (two n n' a b host pages)
  unfolding le64 le32 le16 offset region_at
  two_same =
      let s = two_bytes n n' a b host pages in
      record {
        machines = refl;
        number = below_two (λ m. le16 s (offset s m) ≡ fork n n' m) (omega arith) (omega arith);
        count = below_two (λ m. le16 s (offset s m + 2) ≡ 1) refl refl;
        region =
            λ m i l h.
            below_two (λ m. (i : ℕ) → i < le16 s (offset s m + 2) → region_at s (offset s m + (4 + 25 * i)) ≡ fork a b m)
            (below_one (λ i. region_at s (2 + (4 + 25 * i)) ≡ a) (region_once (region_at s 6) a (back64 a.guest []) (back64 a.host []) (back64 a.pages []) (kind_back a.kind)))
            (below_one (λ i. region_at s (31 + (4 + 25 * i)) ≡ b) (region_once (region_at s 35) b (back64 b.guest []) (back64 b.host []) (back64 b.pages []) (kind_back b.kind)))
            m l i h;
        pool_host = back64 host [];
        pool_pages = back64 pages [];
      }

module _ (n : ℕ) (a b : Region) (host pages : ℕ) where
  -- and so do those of one machine
  pub one_means : Means (one_bytes n a b host pages)
  unfolding le16 offset
  one_means =
      let s = one_bytes n a b host pages in
      record {
        readable =
            record {
              few = lit≤ tt;
              parts =
                  below_one (Part s)
                  (record { few = lit≤ tt; whole = lit≤ tt; kinds = below_two (λ i. get_or s (2 + (4 + 25 * i) + 24) 0 ≤ 2) (number_small a.kind) (number_small b.kind) });
              pool = lit≤ tt;
            };
        exact = refl;
      }

  pub one_same : Same (config_of (one_bytes n a b host pages)) (one n a b host pages)
  unfolding le64 le32 le16 offset region_at
  one_same =
      let s = one_bytes n a b host pages in
      record {
        machines = refl;
        number = below_one (λ m. le16 s (offset s m) ≡ n) (omega arith);
        count = below_one (λ m. le16 s (offset s m + 2) ≡ 2) refl;
        region =
            λ m i l h.
            below_one (λ m. (i : ℕ) → i < le16 s (offset s m + 2) → region_at s (offset s m + (4 + 25 * i)) ≡ fork a b i)
            (below_two (λ i. region_at s (2 + (4 + 25 * i)) ≡ fork a b i)
            (region_once (region_at s 6) a (back64 a.guest []) (back64 a.host []) (back64 a.pages []) (kind_back a.kind))
            (region_once (region_at s 31) b (back64 b.guest []) (back64 b.host []) (back64 b.pages []) (kind_back b.kind)))
            m l i h;
        pool_host = back64 host [];
        pool_pages = back64 pages [];
      }
