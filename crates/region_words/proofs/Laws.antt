-- Kinds and their numbers, and a region by its fields. Assumes nothing.
use mathlib.Core.Path.{◌≡◌, refl, sym, ap, ◌∙◌}
use mathlib.Core.List.{List}
use Prim.Native.Nat.{ℕ, zero, suc, ◌+◌, ◌≤◌, ◌<◌}
use native.Mathlib.Omega.{arith}
use lib.ListN.{length, get_or, set, length-set}
use lib.Seq.{get_or-set_same, get_or-set_other}
use Rattle.base.specs.Ranges.{Outside, Only}
use Rattle.address.specs.declared.Kind.{Kind}
use Rattle.address.specs.declared.Region.{Region}
use Rattle.region_words.specs.Words.{kind_of, number_of, region_of, HasRegion, Put}

-- a number that is neither 0 nor 1 reads as shared
pub kind_other : (w : ℕ) → (w ≡ 0 → ⊥) → (w ≡ 1 → ⊥) → Kind.Shared ≡ kind_of w
unfolding kind_of
kind_other zero a b = absurd (a refl)
kind_other (suc zero) a b = absurd (b refl)
kind_other (suc (suc n)) a b = refl

-- a kind is read back from its number
pub kind_back : (k : Kind) → kind_of (number_of k) ≡ k
unfolding kind_of number_of
kind_back Kind.Ordinary = refl
kind_back Kind.Device = refl
kind_back Kind.Shared = refl

-- and a number up to 2 from its kind
pub number_back : (w : ℕ) → w ≤ 2 → number_of (kind_of w) ≡ w
unfolding kind_of number_of
number_back zero l = refl
number_back (suc zero) l = refl
number_back (suc (suc zero)) l = refl
number_back (suc (suc (suc w))) l = absurd (omega arith)

pub number_small : (k : Kind) → number_of k ≤ 2
unfolding number_of
number_small Kind.Ordinary = omega arith
number_small Kind.Device = omega arith
number_small Kind.Shared = omega arith

-- two kinds with one number are one
pub kind_once : (k l : Kind) → number_of k ≡ number_of l → k ≡ l
kind_once k l e = sym (kind_back k) ∙ (ap kind_of e ∙ kind_back l)

-- two regions that agree in every field are one
pub region_once : (a b : Region) → a.guest ≡ b.guest → a.host ≡ b.host → a.pages ≡ b.pages → a.kind ≡ b.kind → a ≡ b
region_once a b g h p k = λ i. record { guest = g i; host = h i; pages = p i; kind = k i }

-- the region that is read is the one whose words stand there
pub region_back : (t : List ℕ) (at : ℕ) (r : Region) → HasRegion t at r → region_of t at ≡ r
unfolding region_of
region_back t at r h = region_once (region_of t at) r h.guest h.host h.pages (ap kind_of h.kind ∙ kind_back r.kind)

-- a word that a store writes, and one that it leaves
at_store : (t : List ℕ) (k v : ℕ) → k < length t → get_or (set t k v) k 0 ≡ v
at_store t k v l = get_or-set_same t k v 0 l

off_store : (t : List ℕ) (k j v : ℕ) → (j ≡ k → ⊥) → get_or (set t k v) j 0 ≡ get_or t j 0
off_store t k j v n = get_or-set_other t k j v 0 n

-- four stores write the words of r
module _ (t : List ℕ) (at : ℕ) (r : Region) (f : ℕ) (l : at + 4 ≤ length t) (e : f ≡ number_of r.kind) where
  after1 : List ℕ
  after1 = set t at r.guest

  after2 : List ℕ
  after2 = set after1 (at + 1) r.host

  after3 : List ℕ
  after3 = set after2 (at + 2) r.pages

  after4 : List ℕ
  after4 = set after3 (at + 3) f

  long3 : length after3 ≡ length t
  unfolding after1 after2 after3
  long3 = simp length-set

  long2 : length after2 ≡ length t
  unfolding after1 after2
  long2 = simp length-set

  long1 : length after1 ≡ length t
  unfolding after1
  long1 = simp length-set

  long4 : length after4 ≡ length t
  unfolding after1 after2 after3 after4
  long4 = simp length-set

  left : (k : ℕ) → Outside at (at + 4) k → get_or after4 k 0 ≡ get_or t k 0
  unfolding after1 after2 after3 after4
  left k o =
      off_store after3 (at + 3) k f (λ q. o (omega arith) (omega arith))
      ∙ (off_store after2 (at + 2) k r.pages (λ q. o (omega arith) (omega arith))
      ∙ (off_store after1 (at + 1) k r.host (λ q. o (omega arith) (omega arith)) ∙ off_store t at k r.guest (λ q. o (omega arith) (omega arith))))

  guest_word : get_or after4 at 0 ≡ r.guest
  unfolding after1 after2 after3 after4
  guest_word =
      off_store after3 (at + 3) at f (λ q. omega arith)
      ∙ (off_store after2 (at + 2) at r.pages (λ q. omega arith) ∙ (off_store after1 (at + 1) at r.host (λ q. omega arith) ∙ at_store t at r.guest (omega arith)))

  host_word : get_or after4 (at + 1) 0 ≡ r.host
  unfolding after2 after3 after4
  host_word =
      off_store after3 (at + 3) (at + 1) f (λ q. omega arith)
      ∙ (off_store after2 (at + 2) (at + 1) r.pages (λ q. omega arith) ∙ at_store after1 (at + 1) r.host (omega (arith, long1)))

  pages_word : get_or after4 (at + 2) 0 ≡ r.pages
  unfolding after3 after4
  pages_word = off_store after3 (at + 3) (at + 2) f (λ q. omega arith) ∙ at_store after2 (at + 2) r.pages (omega (arith, long2))

  kind_word : get_or after4 (at + 3) 0 ≡ number_of r.kind
  unfolding after4
  kind_word = at_store after3 (at + 3) f (omega (arith, long3)) ∙ e

  pub put_four : Put t at r (set (set (set (set t at r.guest) (at + 1) r.host) (at + 2) r.pages) (at + 3) f)
  unfolding after1 after2 after3 after4
  put_four = record { long = long4; has = record { guest = guest_word; host = host_word; pages = pages_word; kind = kind_word }; others = left }

-- no words but those of the region are written
pub put_only : {t t' : List ℕ} {at : ℕ} {r : Region} → Put t at r t' → Only t at (at + 4) t'
put_only p = record { long = p.long; others = p.others }
