-- A client's frames, released a stretch at a time. Assumes nothing.
use mathlib.Core.Path.{◌≡◌, refl, sym, ◌∙◌}
use mathlib.Core.List.{List}
use Prim.Native.Nat.{ℕ, ◌+◌, ◌*◌, ◌^◌, ◌≤◌, ◌<◌}
use native.Mathlib.Decide.{dec_lt, dec_le}
use native.Mathlib.Omega.{arith}
use lib.ListN.{length, get_or, get_or-eq_default}
use Rattle.base.specs.Search.{Stops}
use Rattle.bitmap_tree.specs.Tree.{free, cap}
use Rattle.bitmap_tree.proofs.Nodes.{bit_lt}
use Rattle.owners.specs.States.{State.Free, State.Owned, state, Accounted}
use Rattle.owners.specs.Writes.{Assigned, Became}
use Rattle.owners.proofs.States.{free_state, owned_state, not_reserved, client_not_reserved}
use Rattle.owners.proofs.Writes.{became, still, free_right, has_place}
use Rattle.owner_passes.specs.Passes.{Released}
use Rattle.owner_passes.proofs.Counting.{other_byte}

-- the frames of the client c below k became free, and no other frame changed
pub record Releasing (t o : List ℕ) (c k : ℕ) (t' o' : List ℕ) : Type 0 where
  pub freed : (m : ℕ) → m < k → state t o m ≡ Owned c → state t' o' m ≡ Free
  pub others : (m : ℕ) → (m < k → state t o m ≡ Owned c → ⊥) → state t' o' m ≡ state t o m
  pub words : length t' ≡ length t
  pub bytes : length o' ≡ length o
  pub accounted : (base : ℕ) → Accounted base t o → Accounted base t' o'

pub release_start : (t o : List ℕ) (c : ℕ) → Releasing t o c 0 t o
release_start t o c = record {
  freed = λ m l. absurd (omega arith);
  others = λ m n. refl;
  words = refl;
  bytes = refl;
  accounted = λ base r. r;
}

-- a frame whose byte is the client c is free or the client's
named_state : (t o : List ℕ) (m c : ℕ) → c < 64 → get_or o m 255 ≡ c → (state t o m ≡ Owned c → ⊥) → state t o m ≡ Free
named_state t o m c l e n = go (dec_lt (free t m) 1)
  where
    go : Dec (free t m < 1) → state t o m ≡ Free
    go (yes z) = absurd (n (owned_state t o m c (omega arith) e l))
    go (no z) = free_state t o m (full z)
      where
        full : (free t m < 1 → ⊥) → free t m ≡ 1
        full z = let b = bit_lt t (length t + m) in omega (arith, z)

-- a stretch of the client's bytes has one at least
pub stretch_some : (o : List ℕ) (c k n a b : ℕ) → Stops (λ m. get_or o m 255 ≡ c → ⊥) k n a → Stops (λ m. get_or o m 255 ≡ c) a n b → a < n → a < b
stretch_some o c k n a b x y l = go (dec_lt a b)
  where
    go : Dec (a < b) → a < b
    go (yes h) = h
    go (no g) = let low = y.low in let e : b ≡ a = omega (arith, g) in absurd (x.fails l (λ q. y.fails (omega arith) (rw e q)))

module _ (t o : List ℕ) (c k a b : ℕ) (t' o' t'' o'' : List ℕ) (l : c < 64) (r : Releasing t o c k t' o')
    (x : Stops (λ m. get_or o' m 255 ≡ c → ⊥) k (length o') a) where
  -- none of the frames from k up to a is the client's
  skipped : (m : ℕ) → k ≤ m → m < a → state t o m ≡ Owned c → ⊥
  skipped m p q e = other_byte t' o' m c (x.before m p q) (r.others m (λ h _. omega arith) ∙ e)

  -- no frame of the client is left
  pub release_done : a ≡ length o' → length o ≡ cap t → Released t o c t' o'
  release_done e f = record {
    freed = λ m s. below m s (dec_lt m k) (dec_lt m a);
    others = λ m n. r.others m (λ _. n);
    words = r.words;
    bytes = r.bytes;
    accounted = r.accounted;
  }
    where
      below : (m : ℕ) → state t o m ≡ Owned c → Dec (m < k) → Dec (m < a) → state t' o' m ≡ Free
      below m s (yes h) d = r.freed m h s
      below m s (no h) (yes q) = absurd (skipped m (omega (arith, h)) q s)
      below m s (no h) (no q) = absurd (other_byte t o m c (λ g. behind g) s)
        where
          behind : get_or o m 255 ≡ c → ⊥
          behind g = let z : get_or o m 255 ≡ 255 = get_or-eq_default o 255 (let n = r.bytes in omega (arith, q)) in omega arith

  -- one stretch more
  pub release_more : Stops (λ m. get_or o' m 255 ≡ c) a (length o') b → length o' ≡ cap t' → Assigned t' o' a b 1 255 t'' o'' → Releasing t o c b t'' o''
  release_more y e z = record {
    freed = λ m h s. freed m h s (dec_lt m k) (dec_lt m a);
    others = λ m n. others m n (dec_le a m) (dec_lt m b);
    words = z.bits.long ∙ r.words;
    bytes = z.bytes.long ∙ r.bytes;
    accounted = λ base q. let q' = r.accounted base q in still t' o' a b 1 255 t'' o'' z base q' (λ m p h. free_right base m (place base q' m p h));
  }
    where
      now : Became t' o' a b Free t'' o''
      now = became t' o' a b 1 255 t'' o'' z Free refl

      low : a ≤ b
      low = y.low

      place : (base : ℕ) → Accounted base t' o' → (m : ℕ) → a ≤ m → m < b → base + 4096 * (m + 1) < 2 ^ 64
      place base q m p h = let top = y.high in at (dec_state m)
        where
          dec_state : (m : ℕ) → Dec (free t' m < 1)
          dec_state m = dec_lt (free t' m) 1

          at : Dec (free t' m < 1) → base + 4096 * (m + 1) < 2 ^ 64
          at (yes u) = has_place base t' o' m (Owned c) q (omega arith) (owned_state t' o' m c (omega arith) (y.before m p h) l) (client_not_reserved c)
          at (no u) = has_place base t' o' m Free q (omega arith) (free_state t' o' m (let v = bit_lt t' (length t' + m) in omega (arith, u))) not_reserved

      freed : (m : ℕ) → m < b → state t o m ≡ Owned c → Dec (m < k) → Dec (m < a) → state t'' o'' m ≡ Free
      freed m h s (yes p) d = let g = x.low in now.others m (λ v w. omega arith) ∙ r.freed m p s
      freed m h s (no p) (yes q) = absurd (skipped m (omega (arith, p)) q s)
      freed m h s (no p) (no q) = now.inside m (omega (arith, q)) h

      others : (m : ℕ) → (m < b → state t o m ≡ Owned c → ⊥) → Dec (a ≤ m) → Dec (m < b) → state t'' o'' m ≡ state t o m
      others m n (yes p) (yes q) =
          let g = x.low in
          let same = r.others m (λ h _. omega arith) in
          now.inside m p q ∙ sym (named_state t' o' m c l (y.before m p q) (λ e. n q (sym same ∙ e))) ∙ same
      others m n (yes p) (no q) = now.others m (λ v w. q w) ∙ r.others m (λ h s. n (let g = x.low in omega (arith, q)) s)
      others m n (no p) d = now.others m (λ v w. p v) ∙ r.others m (λ h s. n (let g = x.low in omega arith) s)
