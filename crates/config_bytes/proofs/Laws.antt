-- Reading step by step, and that nothing is wrong exactly if the bytes are `Readable`. Assumes nothing.
use mathlib.Core.Path.{◌≡◌, refl, sym, ap, ◌∙◌}
use mathlib.Core.Bool.{Bool, true, false}
use mathlib.Core.List.{List}
use Prim.Native.Nat.{ℕ, zero, suc, ◌+◌, ◌-◌, ◌*◌, ◌≤◌, ◌<◌}
use native.Mathlib.Numerals.{add-one, sub-one}
use native.Mathlib.Decide.{ℕ_discrete}
use native.Mathlib.Omega.{arith}
use borrow.Author.Tests.{leb-true, le-leb}
use lib.ListN.{length, get_or}
use lib.Dec.{leb}
use Rattle.std.specs.Prelude.{Ok, Err, IsErrAnd}
use Rattle.std.proofs.lemmas.Result.{err_from_is_err_and}
use Rattle.config_bytes.specs.Fields.{le16, machines, offset, count, Part, Readable}
use Rattle.base.specs.Choices.{pick}
use Rattle.config_bytes.specs.Reading.{Read, after, field, region_read, regions_read, machine_read, machines_read, read_of}
use Rattle.config_bytes.specs.declared.Misread.{Misread}

-- ---- steps

-- what the exit of a `?` hands on
pub handed : {e : Misread} (r : Read) → IsErrAnd r (λ y. y ≡ e) → r ≡ Err e
handed r h = let p = err_from_is_err_and r h in p.1 ∙ ap Err p.2

-- nothing behind r
pub after_last : (r : Read) → after r (Ok tt) ≡ r
after_last (Ok x) = refl
after_last (Err e) = refl

pub regions_step : (left : ℕ) (s : List ℕ) (m i at : ℕ) (next : Read) → 0 < left
    → regions_read left s m i at next ≡ region_read s m i at (regions_read (left - 1) s m (i + 1) (at + 25) next)
unfolding regions_read
regions_step zero s m i at next l = absurd (omega arith)
regions_step (suc left) s m i at next l = rw (sub-one, add-one)

pub regions_none : (left : ℕ) (s : List ℕ) (m i at : ℕ) (next : Read) → left ≤ 0 → regions_read left s m i at next ≡ next
unfolding regions_read
regions_none zero s m i at next l = refl
regions_none (suc left) s m i at next l = absurd (omega arith)

pub machines_step : (left : ℕ) (s : List ℕ) (m at : ℕ) → 0 < left
    → machines_read left s m at ≡ machine_read s m at (machines_read (left - 1) s (m + 1) (at + (4 + 25 * le16 s (at + 2))))
unfolding machines_read
machines_step zero s m at l = absurd (omega arith)
machines_step (suc left) s m at l = rw (sub-one, add-one)

pub machines_none : (left : ℕ) (s : List ℕ) (m at : ℕ) → left ≤ 0 → machines_read left s m at ≡ field s at 8 (field s (at + 8) 8 (Ok tt))
unfolding machines_read
machines_none zero s m at l = refl
machines_none (suc left) s m at l = absurd (omega arith)

-- ---- nothing is wrong: the bytes are readable

picked : (b : Bool) (x : Read) (e : Misread) → pick b x (Err e) ≡ Ok tt → (b ≡ true) × (x ≡ Ok tt)
picked true x e q = (refl, q)
picked false x e q = absurd cc

field_whole : (s : List ℕ) (at size : ℕ) (next : Read) → field s at size next ≡ Ok tt → (at + size ≤ length s) × (next ≡ Ok tt)
field_whole s at size next e =
    let p = picked (leb (at + size) (length s)) next (Misread.TooShort at) e in (leb-true _ _ p.0, p.1)

pub region_whole : (s : List ℕ) (m i at : ℕ) (next : Read) → region_read s m i at next ≡ Ok tt → (at + 25 ≤ length s) × (get_or s (at + 24) 0 ≤ 2) × (next ≡ Ok tt)
unfolding region_read
region_whole s m i at next e =
    let a = field_whole s at 8 _ e in
    let b = field_whole s (at + 8) 8 _ a.1 in
    let d = field_whole s (at + 16) 8 _ b.1 in
    let f = field_whole s (at + 24) 1 _ d.1 in
    let g = picked (leb (get_or s (at + 24) 0) 2) next (Misread.UnknownKind m i) f.1 in
    let l = f.0 in (omega arith, leb-true _ _ g.0, g.1)

pub regions_whole : (n : ℕ) (s : List ℕ) (m i at : ℕ) (next : Read) → at ≤ length s → regions_read n s m i at next ≡ Ok tt
    → (at + 25 * n ≤ length s) × ((j : ℕ) → j < n → get_or s (at + 25 * j + 24) 0 ≤ 2) × (next ≡ Ok tt)
unfolding regions_read
regions_whole zero s m i at next l e = (omega arith, (λ j h. absurd (omega arith)), e)
regions_whole (suc n) s m i at next l e =
    let a = region_whole s m i at _ e in
    let h = a.0 in
    let r = regions_whole n s m (suc i) (at + 25) next h a.2 in
    let k = r.0 in (omega arith, (λ j x. kinds j x a.1 r.1 (ℕ_discrete j 0)), r.2)
  where
    kinds : (j : ℕ) → j < suc n → get_or s (at + 24) 0 ≤ 2 → ((j : ℕ) → j < n → get_or s (at + 25 + 25 * j + 24) 0 ≤ 2) → Dec (j ≡ 0) → get_or s (at + 25 * j + 24) 0 ≤ 2
    kinds j x first rest (yes q) = let p : at + 25 * j + 24 ≡ at + 24 = omega arith in rw p first
    kinds j x first rest (no q) = let p : at + 25 * j + 24 ≡ at + 25 + 25 * (j - 1) + 24 = omega (arith, q) in rw p (rest (j - 1) (omega (arith, q)))

pub machine_whole : (s : List ℕ) (m at : ℕ) (next : Read) → at ≡ offset s m → machine_read s m at next ≡ Ok tt → Part s m × (next ≡ Ok tt)
unfolding machine_read offset
machine_whole s m at next o e =
    let a = field_whole s at 2 _ e in
    let b = field_whole s (at + 2) 2 _ a.1 in
    let d = picked (leb (le16 s (at + 2)) 32) _ (Misread.TooManyRegions m) b.1 in
    let l = b.0 in
    let r = regions_whole (le16 s (at + 2)) s m 0 (at + 4) next (omega arith) d.1 in
    let h = r.0 in
    let c : count s m ≡ le16 s (at + 2) = ap (λ (x : ℕ). le16 s (x + 2)) (sym o) in (
      record {
        few = rw c (leb-true _ _ d.0);
        whole = omega (arith, c);
        kinds = λ i x. let p : offset s m + (4 + 25 * i) + 24 ≡ at + 4 + 25 * i + 24 = omega arith in rw p (r.1 i (rw c at x));
      },
      r.2,
    )

-- the fields of the first machine
pub offset_first : (s : List ℕ) → 2 ≡ offset s 0
unfolding offset
offset_first s = refl

-- no machine's fields stand before byte 2
pub offset_low : (s : List ℕ) (m : ℕ) → 2 ≤ offset s m
unfolding offset
offset_low s zero = omega arith
offset_low s (suc m) = let l = offset_low s m in omega arith

-- the fields of each of the machines before machine m have at most 804 bytes
pub offset_high : (s : List ℕ) → Readable s → (m : ℕ) → m ≤ machines s → offset s m ≤ 2 + 804 * m
unfolding offset
offset_high s r zero l = omega arith
offset_high s r (suc m) l = let h = offset_high s r m (omega arith) in let f = (r.parts m (omega arith)).few in omega arith

-- the fields of the next machine start behind those of this one
pub next_offset : (s : List ℕ) (m at : ℕ) → at ≡ offset s m → at + (4 + 25 * le16 s (at + 2)) ≡ offset s (suc m)
unfolding offset
next_offset s m at o = ap (λ (x : ℕ). x + (4 + 25 * le16 s (x + 2))) o

machines_whole : (left : ℕ) (s : List ℕ) (m at : ℕ) → at ≡ offset s m → machines_read left s m at ≡ Ok tt
    → ((j : ℕ) → m ≤ j → j < m + left → Part s j) × (offset s (m + left) + 16 ≤ length s)
unfolding machines_read
machines_whole zero s m at o e =
    let a = field_whole s at 8 _ e in
    let b = field_whole s (at + 8) 8 _ a.1 in
    let l = b.0 in
    let z : m + 0 ≡ m = omega arith in
    ((λ j x y. absurd (omega arith)), rw z (omega arith))
machines_whole (suc left) s m at o e =
    let a = machine_whole s m at _ o e in
    let r = machines_whole left s (suc m) (at + (4 + 25 * le16 s (at + 2))) (next_offset s m at o) a.1 in
    let z : m + suc left ≡ suc m + left = omega arith in
    ((λ j x y. part j x y a.0 r.0 (ℕ_discrete j m)), rw z r.1)
  where
    part : (j : ℕ) → m ≤ j → j < m + suc left → Part s m → ((j : ℕ) → suc m ≤ j → j < suc m + left → Part s j) → Dec (j ≡ m) → Part s j
    part j x y first rest (yes q) = rw q first
    part j x y first rest (no q) = rest j (omega (arith, q)) (omega arith)

pub whole_readable : (s : List ℕ) → read_of s ≡ Ok tt → Readable s
unfolding read_of offset
whole_readable s e =
    let a = field_whole s 0 2 _ e in
    let b = picked (leb (machines s) 64) _ Misread.TooManyMachines a.1 in
    let r = machines_whole (machines s) s 0 2 refl b.1 in
    let z : 0 + machines s ≡ machines s = omega arith in
    record { few = leb-true _ _ b.0; parts = λ m l. r.0 m (omega arith) (omega arith); pool = rw z at r.1 }

-- ---- the bytes are readable: nothing is wrong

field_fine : (s : List ℕ) (at size : ℕ) (next : Read) → at + size ≤ length s → next ≡ Ok tt → field s at size next ≡ Ok tt
field_fine s at size next l e = simp (le-leb (at + size) (length s) l) e

region_fine : (s : List ℕ) (m i at : ℕ) (next : Read) → at + 25 ≤ length s → get_or s (at + 24) 0 ≤ 2 → next ≡ Ok tt → region_read s m i at next ≡ Ok tt
unfolding region_read
region_fine s m i at next l k e =
    field_fine s at 8 _ (omega arith)
    (field_fine s (at + 8) 8 _ (omega arith)
    (field_fine s (at + 16) 8 _ (omega arith) (field_fine s (at + 24) 1 _ (omega arith) (simp (le-leb (get_or s (at + 24) 0) 2 k) e))))

regions_fine : (n : ℕ) (s : List ℕ) (m i at : ℕ) (next : Read) → at + 25 * n ≤ length s → ((j : ℕ) → j < n → get_or s (at + 25 * j + 24) 0 ≤ 2) → next ≡ Ok tt
    → regions_read n s m i at next ≡ Ok tt
unfolding regions_read
regions_fine zero s m i at next l k e = e
regions_fine (suc n) s m i at next l k e =
    let z : at + 25 * 0 + 24 ≡ at + 24 = omega arith in
    region_fine s m i at _ (omega arith) (rw z at (k 0 (omega arith)))
    (regions_fine n s m (suc i) (at + 25) next (omega arith) (λ j h. let p : at + 25 + 25 * j + 24 ≡ at + 25 * suc j + 24 = omega arith in rw p (k (suc j) (omega arith))) e)

machine_fine : (s : List ℕ) (m at : ℕ) (next : Read) → at ≡ offset s m → Part s m → next ≡ Ok tt → machine_read s m at next ≡ Ok tt
unfolding machine_read
machine_fine s m at next o p e =
    let c : le16 s (at + 2) ≡ count s m = ap (λ (x : ℕ). le16 s (x + 2)) o in
    let w = p.whole in
    let n = next_offset s m at o in
    let f : le16 s (at + 2) ≤ 32 = rw c p.few in
    field_fine s at 2 _ (omega arith)
    (field_fine s (at + 2) 2 _ (omega arith)
    (simp (le-leb (le16 s (at + 2)) 32 f)
    (regions_fine (le16 s (at + 2)) s m 0 (at + 4) next (omega arith)
    (λ j h. let q : at + 4 + 25 * j + 24 ≡ offset s m + (4 + 25 * j) + 24 = omega arith in rw q (p.kinds j (rw c at h))) e)))

machines_fine : (left : ℕ) (s : List ℕ) (m at : ℕ) → at ≡ offset s m → ((j : ℕ) → j < m + left → Part s j) → offset s (m + left) + 16 ≤ length s → machines_read left s m at ≡ Ok tt
unfolding machines_read
machines_fine zero s m at o p l =
    let z : m + 0 ≡ m = omega arith in
    let h : offset s m + 16 ≤ length s = rw z at l in
    field_fine s at 8 _ (omega arith) (field_fine s (at + 8) 8 _ (omega arith) refl)
machines_fine (suc left) s m at o p l =
    let z : suc m + left ≡ m + suc left = omega arith in
    machine_fine s m at _ o (p m (omega arith)) (machines_fine left s (suc m) _ (next_offset s m at o) (λ j h. p j (omega arith)) (rw z l))

pub readable_whole : (s : List ℕ) → Readable s → read_of s ≡ Ok tt
unfolding read_of
readable_whole s r =
    let z : 0 + machines s ≡ machines s = omega arith in
    let l = r.pool in
    let g = offset_low s (machines s) in
    field_fine s 0 2 _ (omega arith)
    (simp (le-leb (machines s) 64 r.few) (machines_fine (machines s) s 0 2 (offset_first s) (λ j h. r.parts j (omega arith)) (rw z r.pool)))

-- ---- the loops

-- the first i regions of machine m are read, and nothing is wrong: what is found is what is found from region i on
pub record Regions (s : List ℕ) (at n m i : ℕ) : Type 0 where
  pub within : at + 25 * i ≤ length s
  pub same : (next : Read) → regions_read n s m 0 at next ≡ regions_read (n - i) s m i (at + 25 * i) next

pub regions_found : {s : List ℕ} {at n m i : ℕ} (r : Read) → Regions s at n m i → i < n → ((next : Read) → region_read s m i (at + 25 * i) next ≡ after r next)
    → (next : Read) → regions_read n s m 0 at next ≡ after r (regions_read (n - i - 1) s m (i + 1) (at + 25 * i + 25) next)
regions_found {s} {at} {n} {m} {i} r g l c next = g.same next ∙ (regions_step (n - i) s m i (at + 25 * i) next (omega arith) ∙ c _)

pub regions_more : {s : List ℕ} {at n m i : ℕ} → Regions s at n m i → i < n → ((next : Read) → region_read s m i (at + 25 * i) next ≡ next) → Regions s at n m (i + 1)
regions_more {s} {at} {n} {m} {i} g l c =
    let h = (region_whole s m i (at + 25 * i) (Ok tt) (c (Ok tt))).0 in
    let p : at + 25 * i + 25 ≡ at + 25 * (i + 1) = omega arith in
    let q : n - i - 1 ≡ n - (i + 1) = omega arith in
    record { within = omega arith; same = λ next. rw (← p, ← q) (regions_found (Ok tt) g l c next) }

-- the first m machines are read, and nothing is wrong; the fields of machine m start at `at`
pub record Machines (s : List ℕ) (m at : ℕ) : Type 0 where
  pub within : at ≤ length s
  pub few : machines s ≤ 64
  pub place : at ≡ offset s m
  pub same : read_of s ≡ machines_read (machines s - m) s m at

module _ {s : List ℕ} {m at : ℕ} (g : Machines s m at) (l : m < machines s) where
  pub machines_found : (r : Read) → ((next : Read) → machine_read s m at next ≡ after r next)
      → read_of s ≡ after r (machines_read (machines s - m - 1) s (m + 1) (at + (4 + 25 * le16 s (at + 2))))
  machines_found r c = g.same ∙ (machines_step (machines s - m) s m at (omega arith) ∙ c _)

  module _ (c : (next : Read) → machine_read s m at next ≡ next) where
    pub machine_part : Part s m
    machine_part = (machine_whole s m at (Ok tt) g.place (c (Ok tt))).0

    pub part_end : at + (4 + 25 * le16 s (at + 2)) ≤ length s
    part_end = let h = machine_part.whole in omega (arith, next_offset s m at g.place)

    pub part_few : le16 s (at + 2) ≤ 32
    part_few = let h = machine_part.few in rw g.place h

    pub machines_more : Machines s (m + 1) (at + (4 + 25 * le16 s (at + 2)))
    machines_more =
        let q : machines s - m - 1 ≡ machines s - (m + 1) = omega arith in
        record {
          within = part_end;
          few = g.few;
          place = rw add-one (next_offset s m at g.place);
          same = rw (← q) (machines_found (Ok tt) c);
        }

-- before the first machine, where there are two bytes and at most 64 machines
pub machines_first : (s : List ℕ) → 2 ≤ length s → machines s ≤ 64 → Machines s 0 2
unfolding read_of offset
machines_first s h l = record { within = h; few = l; place = refl; same = let q : machines s - 0 ≡ machines s = omega arith in rw q (simp (le-leb (0 + 2) (length s) h, le-leb (machines s) 64 l)) }

-- behind the last machine
pub machines_end : {s : List ℕ} {m at : ℕ} → Machines s m at → machines s ≤ m → read_of s ≡ field s at 8 (field s (at + 8) 8 (Ok tt))
machines_end {s} {m} {at} g l = g.same ∙ machines_none (machines s - m) s m at (omega arith)
