-- The original's terms, over the memory and the regions here. Assumes nothing.
use Rattle.std.specs.Prelude.{◌≡◌, Bool, true, false, not, ◌&&◌, ◌||◌, List, ℕ, zero, suc, ◌+◌, ◌-◌, ◌*◌, ◌/◌, ◌%◌, ◌^◌, ◌≤◌, ◌<◌, eqb, ltb, get_or}
use Rattle.base.specs.Choices.{at, at_run}
use Rattle.address.specs.declared.Region.{Region}
use Rattle.set_model.specs.Sets.{same, any}
use Rattle.bits16.specs.Bits.{bit}
use Rattle.bitmap_tree.specs.Tree.{free, cap}
use Rattle.owners.specs.States.{State}
use Rattle.machine.specs.State.{is_free, is_mine}

-- ---- sequences of booleans

-- how long a sequence is, and what it has at each place
pub record Sequence : Type 0 where
  pub len : ℕ
  pub place : ℕ → Bool

-- `view`: as many places as a tree has frames, and true for a frame that is free
abbrev pub view : List ℕ → Sequence
view t = record { len = cap t; place = λ k. eqb (free t k) 1 }

-- `update`: v at place i, and all else as it is
abbrev pub update : Sequence → ℕ → Bool → Sequence
update s i v = record { len = s.len; place = at s.place i v }

-- v at the n places from i on, and all else as it is
abbrev pub update_run : Sequence → ℕ → ℕ → Bool → Sequence
update_run s i n v = record { len = s.len; place = at_run s.place i n v }

-- two sequences are equal: as long, and alike at each place
pub record Equal (s r : Sequence) : Type 0 where
  pub long : s.len ≡ r.len
  pub alike : (k : ℕ) → k < r.len → s.place k ≡ r.place k

-- `u16_view`: the sixteen bits of a word
abbrev pub word_view : ℕ → Sequence
word_view w = record { len = 16; place = λ i. eqb (bit w i) 1 }

-- `view` of nested trees, here of the tree under word n with h levels of words below it: a word's bits, or the views of the sixteen trees
-- below, one behind the other
abbrev pub nested : List ℕ → ℕ → ℕ → Sequence
nested t zero n = word_view (get_or t n 0)
nested t (suc h) n = record { len = 16 ^ suc h * 16; place = λ k. (nested t h (16 * n + 1 + k / 16 ^ suc h)).place (k % 16 ^ suc h) }

-- `view_index_mapping`: the cap places of ba from cap · i on are those of sub
abbrev pub ViewIndexMapping : Sequence → ℕ → Sequence → ℕ → Type 0
ViewIndexMapping ba i sub cap = (j : ℕ) → j < cap → ba.place (cap * i + j) ≡ sub.place j

-- `has_obstruction`: the start is no multiple of the alignment, or a frame of the run is taken
pub data HasObstruction (ba : Sequence) (i size align : ℕ) : Type 0 where
  Misaligned : (i % align ≡ 0 → ⊥) → HasObstruction ba i size align
  Taken : (k : ℕ) → i ≤ k → k < i + size → ba.place k ≡ false → HasObstruction ba i size align

-- `cascade_not_overflow`, of a tree of so many levels: at each level above the first the frames are fewer than 2^20
abbrev pub CascadeNotOverflow : ℕ → Type 0
CascadeNotOverflow zero = Unit
CascadeNotOverflow (suc zero) = Unit
CascadeNotOverflow (suc (suc d)) = CascadeNotOverflow (suc d) × (16 ^ suc d * 16 < 1048576)

-- `is_pow16`: one of the original's five capacities
pub data IsPow16 : ℕ → Type 0 where
  First : IsPow16 16
  Second : IsPow16 256
  Third : IsPow16 4096
  Fourth : IsPow16 65536
  Fifth : IsPow16 1048576

-- the frames of the whole capacity end at 2^64 - 1 or before
abbrev pub BaseFits : ℕ → ℕ → Type 0
BaseFits base cap = base + 4096 * cap ≤ 2 ^ 64 - 1

-- ---- sets

-- a set of things, by the test of whether it contains a thing
abbrev pub Set : Type 0 → Type 0
Set A = A → Bool

-- `empty`
abbrev pub nothing : {A : Type 0} → Set A
nothing x = false

-- the numbers below n; those of a run are `within`
abbrev pub below : ℕ → Set ℕ
below n k = ltb k n

-- `insert` and `remove`
abbrev pub insert : Set ℕ → ℕ → Set ℕ
insert s k = at s k true

abbrev pub remove : Set ℕ → ℕ → Set ℕ
remove s k = at s k false

-- `union` and `difference`
abbrev pub union : {A : Type 0} → Set A → Set A → Set A
union s r x = s x || r x

abbrev pub difference : {A : Type 0} → Set A → Set A → Set A
difference s r x = s x && not (r x)

-- everything in s is in r
abbrev pub Subset : {A : Type 0} → Set A → Set A → Type 0
Subset {A} s r = (x : A) → s x ≡ true → r x ≡ true

-- `disjoint`
abbrev pub Disjoint : {A : Type 0} → Set A → Set A → Type 0
Disjoint {A} s r = (x : A) → s x ≡ true → r x ≡ true → ⊥

-- `free_set`: the frames that are free, by what each frame is
abbrev pub free_set : (ℕ → State) → Set ℕ
free_set f k = is_free (f k)

-- `owned_frames`: the frames of the client c
abbrev pub owned_set : (ℕ → State) → ℕ → Set ℕ
owned_set f c k = is_mine c (f k)

-- `paddr_to_fid_spec`: the number of the frame at an address
abbrev pub fid_of : ℕ → ℕ → ℕ
fid_of base addr = (addr - base) / 4096

-- the regions that a list has, and one region alone
abbrev pub region_set : List Region → Set Region
region_set l r = any (same r) l

abbrev pub just : Region → Set Region
just r q = same q r

-- ---- ranges of addresses

-- `overlap`: the range that starts first ends behind the start of the other
pub record Overlap (base1 size1 base2 size2 : ℕ) : Type 0 where
  pub first : base1 ≤ base2 → base2 < base1 + size1
  pub second : base2 < base1 → base1 < base2 + size2
