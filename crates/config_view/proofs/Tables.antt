-- Every configuration of at most 64 machines with at most 32 regions each has a table. Assumes nothing.
use mathlib.Core.Path.{◌≡◌, refl, ap, ◌∙◌}
use mathlib.Core.List.{List, [], ◌∷◌}
use Prim.Native.Nat.{ℕ, zero, suc, ◌+◌, ◌-◌, ◌*◌, ◌/◌, ◌%◌, ◌<◌}
use native.Mathlib.Nat.{not-suc-le-zero, le_of_suc-le-suc}
use native.Mathlib.Omega.{arith}
use borrow.Author.Tests.{lt-ltb, le-ltb}
use lib.Dec.{ltb}
use lib.ListN.{length, get_or}
use Rattle.base.specs.Choices.{pick}
use Rattle.address.specs.declared.Kind.{Kind}
use Rattle.address.specs.declared.Region.{Region}
use Rattle.region_words.specs.Words.{number_of, HasRegion}
use Rattle.config_model.specs.Config.{Config}
use Rattle.config_view.specs.Table.{Table, number_in, count_in, region_in}

-- the list of f's first n values
unfoldable pub list_of : (ℕ → ℕ) → ℕ → List ℕ
list_of f zero = []
list_of f (suc n) = f 0 ∷ list_of (λ k. f (suc k)) n

-- how long it is, and each of its words
list_long : (f : ℕ → ℕ) (n : ℕ) → length (list_of f n) ≡ n
unfolding list_of
list_long f zero = refl
list_long f (suc n) = ap suc (list_long (λ k. f (suc k)) n)

list_word : (f : ℕ → ℕ) (n k : ℕ) → k < n → get_or (list_of f n) k 0 ≡ f k
unfolding list_of
list_word f zero k l = absurd (not-suc-le-zero l)
list_word f (suc n) zero l = refl
list_word f (suc n) (suc k) l = list_word (λ k. f (suc k)) n k (le_of_suc-le-suc l)

-- word j of a region
abbrev pub region_word : Region → ℕ → ℕ
region_word r zero = r.guest
region_word r (suc zero) = r.host
region_word r (suc (suc zero)) = r.pages
region_word r (suc (suc (suc j))) = number_of r.kind

-- word q of machine m
abbrev pub machine_word : Config → ℕ → ℕ → ℕ
machine_word c m zero = number_in c m
machine_word c m (suc zero) = count_in c m
machine_word c m (suc (suc q)) = region_word (region_in c m (q / 4)) (q % 4)

-- the allocator's region, without a guest start
abbrev pub pool_of : Config → Region
pool_of c = record { guest = 0; host = c.pool.host; pages = c.pool.pages; kind = Kind.Ordinary }

-- word q behind the machines
abbrev pub last_word : Config → ℕ → ℕ
last_word c zero = c.machines
last_word c (suc q) = region_word (pool_of c) q

-- word k of the table
unfoldable pub word_of : Config → ℕ → ℕ
word_of c k = pick (ltb k 8320) (machine_word c (k / 130) (k % 130)) (last_word c (k - 8320))

-- the table of c
unfoldable pub table_of : Config → List ℕ
table_of c = list_of (word_of c) 8325

module _ (c : Config) where
  -- word q of machine m in the table, and word q behind the machines
  word_in : (m q : ℕ) → m < 64 → q < 130 → get_or (table_of c) (130 * m + q) 0 ≡ machine_word c m q
  unfolding table_of word_of
  word_in m q l h =
      let d : (130 * m + q) / 130 ≡ m = omega arith in
      let e : (130 * m + q) % 130 ≡ q = omega arith in
      list_word (word_of c) 8325 (130 * m + q) (omega arith) ∙ rw (lt-ltb (130 * m + q) 8320 (omega arith), d, e) refl

  word_behind : (q : ℕ) → q < 5 → get_or (table_of c) (8320 + q) 0 ≡ last_word c q
  unfolding table_of word_of
  word_behind q l =
      let e : 8320 + q - 8320 ≡ q = omega arith in
      list_word (word_of c) 8325 (8320 + q) (omega arith) ∙ rw (le-ltb (8320 + q) 8320 (omega arith), e) refl

  -- word j of region i of machine m
  word_of_lem : (m i j : ℕ) → m < 64 → i < 32 → j < 4 → get_or (table_of c) (130 * m + (2 + 4 * i) + j) 0 ≡ region_word (region_in c m i) j
  word_of_lem m i j l h b =
      let k : 130 * m + (2 + 4 * i) + j ≡ 130 * m + suc (suc (4 * i + j)) = omega arith in
      let d : (4 * i + j) / 4 ≡ i = omega arith in
      let e : (4 * i + j) % 4 ≡ j = omega arith in
      rw k (word_in m (suc (suc (4 * i + j))) l (omega arith) ∙ rw (d, e) refl)

  -- region i of machine m in the table
  region_of_lem : (m i : ℕ) → m < 64 → i < 32 → HasRegion (table_of c) (130 * m + (2 + 4 * i)) (region_in c m i)
  region_of_lem m i l h =
      let k : 130 * m + (2 + 4 * i) ≡ 130 * m + (2 + 4 * i) + 0 = omega arith in
      record {
        guest = rw k (word_of_lem m i 0 l h (omega arith));
        host = word_of_lem m i 1 l h (omega arith);
        pages = word_of_lem m i 2 l h (omega arith);
        kind = word_of_lem m i 3 l h (omega arith);
      }

  -- it is the table of c
  pub table_of_lem : Table c (table_of c)
  unfolding table_of
  table_of_lem =
      record {
        long = list_long (word_of c) 8325;
        machines = word_behind 0 (omega arith);
        pool = record { guest = word_behind 1 (omega arith); host = word_behind 2 (omega arith); pages = word_behind 3 (omega arith); kind = word_behind 4 (omega arith) };
        number = λ m l. let k : 130 * m ≡ 130 * m + 0 = omega arith in rw k (word_in m 0 l (omega arith));
        count = λ m l. word_in m 1 l (omega arith);
        region = region_of_lem;
      }
