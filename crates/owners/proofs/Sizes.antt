-- What the contracts assume of an allocator is met at every size: whatever each frame is to be, there are memories in which it is that.
-- Assumes nothing.
use mathlib.Core.Path.{◌≡◌, refl, ◌∙◌}
use mathlib.Core.List.{List}
use Prim.Native.Nat.{ℕ, zero, suc, ◌+◌, ◌-◌, ◌*◌, ◌/◌, ◌%◌, ◌^◌, ◌≤◌, ◌<◌}
use native.Mathlib.Decide.{ℕ_discrete, dec_lt}
use native.Mathlib.Omega.{arith}
use lib.ListN.{length, get_or, set, replicate, length-replicate}
use lib.Seq.{get_or-set_same, get_or-set_other}
use lib.Bits.{bit_or, bit_xor}
use Rattle.base.proofs.Ranges.{zero_word}
use Rattle.bits16.specs.Bits as bits
use Rattle.bits16.proofs.Masks.{bit_filled, filled_one, filled_zero}
use Rattle.bitmap_tree.specs.Tree.{cap, Full}
use Rattle.bitmap_tree.specs.Writes.{Climbed, Changed}
use Rattle.bitmap_tree.proofs.Nodes.{parent_none}
use Rattle.bitmap_tree.proofs.Fullness.{full_exists, full_bound}
use Rattle.bitmap_tree.proofs.Writes.{painted_one}
use Rattle.bitmap_tree.proofs.Ascent.{Climbing, climb_start, climb_done, climb_step, changed_one}
use Rattle.bitmap_tree.proofs.Summaries.{Words16}
use Rattle.bitmap_tree.proofs.Sizes.{zeros_agree}
use Rattle.owners.specs.States.{State, State.Free, State.Reserved, State.Owned, state_of, state, Placed, Right, Accounted}
use Rattle.owners.specs.Writes.{Assigned, Became}
use Rattle.owners.proofs.States.{of_owned, reserved_state, same_right, not_reserved, client_not_reserved}
use Rattle.owners.proofs.Writes.{fill_none, fill_more, became, still, owned_right, free_right, reserved_right}

-- ---- one frame of a tree

-- the word whose bit i is 1, and no other
abbrev mask : ℕ → ℕ
mask i = (1 * 2 ^ i) % 65536

-- some word is w with v as its bit i
word_with : (w i v : ℕ) → i < 16 → v < 2 → w < 65536 → (r : ℕ) × bits.Filled w i (i + 1) v r
word_with w i v l two f = go (ℕ_discrete v 1)
  where
    go : Dec (v ≡ 1) → (r : ℕ) × bits.Filled w i (i + 1) v r
    go (yes e) = (bit_or w (mask i), rw e (filled_one w i (i + 1) (mask i) f (bit_filled i l)))
    go (no n) = let z : v ≡ 0 = omega (arith, n) in (bit_xor (bit_or w (mask i)) (mask i), rw z (filled_zero w i (i + 1) (mask i) f (bit_filled i l)))

-- words stay words where one of them is written
words_set : (t : List ℕ) (p r : ℕ) → Words16 t → p < length t → r < 65536 → Words16 (set t p r)
unfolding Words16
words_set t p r f h l n = go (ℕ_discrete n p)
  where
    go : Dec (n ≡ p) → get_or (set t p r) n 0 < 65536
    go (yes e) = let q = get_or-set_same t p r 0 h in rw e (omega arith)
    go (no d) = let q = get_or-set_other t p n r 0 d in let b = f n in omega arith

module _ (t₀ : List ℕ) (j v : ℕ) (pos : 0 < j) (range : j ≤ 16 * length t₀) where
  -- some tree is t₀ with v as the bit of node j, and its words are words
  abbrev Reached : Type 0
  Reached = (t : List ℕ) × Words16 t × Climbed t₀ j v t

  -- the way up from node j can be gone to its end, wherever it is on
  reach : (f : ℕ) (t : List ℕ) (n u : ℕ) → n ≤ f → Words16 t → Climbing t₀ t j v n u → Reached
  unfolding Words16
  reach zero t n u l w c = (t, w, climb_done t₀ t j v n u c (omega arith) (λ _ q. absurd (omega arith)))
  reach (suc f) t n u l w c = at (dec_lt 0 n) (λ t' m x h w' c'. reach f t' m x h w' c')
    where
      at : Dec (0 < n) → ((t' : List ℕ) (m x : ℕ) → m ≤ f → Words16 t' → Climbing t₀ t' j v m x → Reached) → Reached
      at (no z) up = (t, w, climb_done t₀ t j v n u c (omega (arith, z)) (λ _ q. absurd (z q)))
      at (yes p) up =
          let top = c.top in
          let long = c.long in
          let inside : (n - 1) / 16 < length t = omega arith in
          let x = word_with (get_or t ((n - 1) / 16) 0) ((n - 1) % 16) u (omega arith) c.two (w ((n - 1) / 16)) in
          let put = painted_one t n u x.0 p inside c.two x.1 in
          up (set t ((n - 1) / 16) x.0) ((n - 1) / 16) _ (omega arith) (words_set t ((n - 1) / 16) x.0 w inside x.1.fits)
          (climb_step t₀ t (set t ((n - 1) / 16) x.0) j v n u range p c put _ refl)

-- some tree differs from t in frame k alone, which is v
tree_with : (t : List ℕ) (k v : ℕ) → Words16 t → 0 < length t → k < cap t → v < 2 → (t' : List ℕ) × Words16 t' × Changed t k (k + 1) v t'
tree_with t k v w p l two =
    let x = reach t (length t + k) v (omega arith) (omega arith) (length t + k) t (length t + k) v (omega arith) w (climb_start t (length t + k) v two) in
    (x.0, x.1, changed_one t x.0 k v x.2)

-- ---- what a frame can be

-- frame k can be s: a client is one of 64, and what is not reserved has its place
pub record Possible (base k : ℕ) (s : State) : Type 0 where
  pub client : (c : ℕ) → s ≡ Owned c → c < 64
  pub placed : (s ≡ Reserved → ⊥) → Placed base k

-- a frame that has its place can be free
pub free_possible : (base k : ℕ) → Placed base k → Possible base k Free
free_possible base k p = record { client = λ c q. absurd (let z : ◌≡◌ {A = ℕ} 0 1 = cc in omega arith); placed = λ _. p }

-- the bit of a frame that is s
bit_of : State → ℕ
bit_of Free = 1
bit_of Reserved = 0
bit_of (Owned c) = 0

-- and its byte
byte_of : State → ℕ
byte_of Free = 255
byte_of Reserved = 255
byte_of (Owned c) = c

-- a bit is 0 or 1
bit_two : (s : State) → bit_of s < 2
unfolding bit_of
bit_two Free = omega arith
bit_two Reserved = omega arith
bit_two (Owned c) = omega arith

-- bit and byte are in order
bit_right : (base k : ℕ) (s : State) → Possible base k s → Right base k (bit_of s) (byte_of s)
unfolding bit_of byte_of
bit_right base k Free p = free_right base k (p.placed not_reserved)
bit_right base k Reserved p = reserved_right base k
bit_right base k (Owned c) p = owned_right base k c (p.client c refl) (p.placed (client_not_reserved c))

-- and say what the frame is
bit_state : (base k : ℕ) (s : State) → Possible base k s → state_of (bit_of s) (byte_of s) ≡ s
unfolding bit_of byte_of
bit_state base k Free p = refl
bit_state base k Reserved p = refl
bit_state base k (Owned c) p = of_owned 0 c (λ e. omega arith) (p.client c refl)

-- ---- all frames

-- a byte of nobody's, and what is behind them
pub nobody_byte : (n k : ℕ) → get_or {A = ℕ} (replicate n 255) k 255 ≡ 255
nobody_byte zero k = refl
nobody_byte (suc n) zero = refl
nobody_byte (suc n) (suc k) = nobody_byte n k

-- memories with w words of a tree, in which the frames below n are as s has them and all others reserved
record Made (base w : ℕ) (s : ℕ → State) (n : ℕ) : Type 0 where
  pub tree : List ℕ
  pub bytes : List ℕ
  pub size : length tree ≡ w
  pub words : Words16 tree
  pub accounted : Accounted base tree bytes
  pub is : (k : ℕ) → k < n → state tree bytes k ≡ s k
  pub rest : (k : ℕ) → n ≤ k → state tree bytes k ≡ Reserved

-- all frames are reserved
made_none : (base w : ℕ) (s : ℕ → State) → Full w → base % 4096 ≡ 0 → Made base w s 0
unfolding Words16
made_none base w s f e =
    record {
      tree = replicate w 0;
      bytes = replicate (15 * w + 1) 255;
      size = long;
      words = λ n. let z = zero_word w n in omega arith;
      accounted = record {
        matched = record { full = rw long f; bytes = let t = long in let o = length-replicate {A = ℕ} (15 * w + 1) 255 in omega arith };
        aligned = e;
        agree = zeros_agree w;
        right = λ k l. same_right base k 0 255 _ _ (parent_none (replicate w 0) _ (zero_word w _)) (nobody_byte (15 * w + 1) k) (reserved_right base k);
      };
      is = λ k l. absurd (omega arith);
      rest = λ k l.
          let b = nobody_byte (15 * w + 1) k in
          reserved_state (replicate w 0) (replicate (15 * w + 1) 255) k (parent_none (replicate w 0) _ (zero_word w _)) (λ h. omega arith);
    }
  where
    long : length {A = ℕ} (replicate w 0) ≡ w
    long = length-replicate {A = ℕ} w 0

-- one frame more is as it is to be
made_more : (base w : ℕ) (s : ℕ → State) (n : ℕ) → Full w → n < 15 * w + 1 → Possible base n (s n) → Made base w s n → Made base w s (suc n)
made_more base w s n f l p m =
    record {
      tree = x.0;
      bytes = set m.bytes n (byte_of (s n));
      size = x.2.long ∙ m.size;
      words = x.1;
      accounted = still _ _ n (n + 1) _ _ _ _ given base m.accounted (λ k a b. let q : k ≡ n = omega arith in rw q (bit_right base n (s n) p));
      is = λ k h. is k h (ℕ_discrete k n);
      rest = λ k h. now.others k (λ a b. omega arith) ∙ m.rest k (omega arith);
    }
  where
    size : length m.tree ≡ w
    size = m.size

    x : (t' : List ℕ) × Words16 t' × Changed m.tree n (n + 1) (bit_of (s n)) t'
    x = let b = full_bound w f in tree_with m.tree n (bit_of (s n)) m.words (omega arith) (omega arith) (bit_two (s n))

    given : Assigned m.tree m.bytes n (n + 1) (bit_of (s n)) (byte_of (s n)) x.0 (set m.bytes n (byte_of (s n)))
    given =
        record {
          bits = x.2;
          bytes =
              let b = m.accounted.matched.bytes in
              fill_more m.bytes n n (byte_of (s n)) m.bytes (omega arith) (omega arith) (fill_none m.bytes n (byte_of (s n)));
        }

    now : Became m.tree m.bytes n (n + 1) (s n) x.0 (set m.bytes n (byte_of (s n)))
    now = became _ _ n (n + 1) _ _ _ _ given (s n) (bit_state base n (s n) p)

    is : (k : ℕ) → k < suc n → Dec (k ≡ n) → state x.0 (set m.bytes n (byte_of (s n))) k ≡ s k
    is k h (yes q) = rw q (now.inside n (omega arith) (omega arith))
    is k h (no d) = now.others k (λ a b. d (omega arith)) ∙ m.is k (omega (arith, d))

-- all of them
made : (base w : ℕ) (s : ℕ → State) (n : ℕ) → Full w → base % 4096 ≡ 0 → n ≤ 15 * w + 1 → ((k : ℕ) → k < n → Possible base k (s k)) → Made base w s n
made base w s zero f e l p = made_none base w s f e
made base w s (suc n) f e l p = made_more base w s n f (omega arith) (p n (omega arith)) (made base w s n f e (omega arith) (λ k h. p k (omega arith)))

-- ---- every size

-- for every size, every base and every number n of frames that may be used, whatever each of these frames is to be, if it can: there are
-- memories that are an allocator's, of words of 16 bits, in which it is that, and all other frames are reserved
pub every_state : (d base n : ℕ) (s : ℕ → State) → 0 < d → d ≤ 15 → base % 4096 ≡ 0 → n ≤ 16 ^ d → ((k : ℕ) → k < n → Possible base k (s k))
    → (t : List ℕ) × (o : List ℕ) × (cap t ≡ 16 ^ d) × Words16 t × Accounted base t o × ((k : ℕ) → k < n → state t o k ≡ s k) × ((k : ℕ) → n ≤ k → state t o k ≡ Reserved)
every_state d base n s p l e h can =
    let f = full_exists d p l in
    let q = f.2 in
    let m = made base f.0 s n f.1 e (omega arith) can in
    let size = m.size in
    (m.tree, m.bytes, omega arith, m.words, m.accounted, m.is, m.rest)

-- the frames that may be used can all be free
pub every_size : (d base n : ℕ) → 0 < d → d ≤ 15 → base % 4096 ≡ 0 → n ≤ 16 ^ d → base + 4096 * n < 2 ^ 64
    → (t : List ℕ) × (o : List ℕ) × (cap t ≡ 16 ^ d) × Words16 t × Accounted base t o × ((k : ℕ) → k < n → state t o k ≡ Free) × ((k : ℕ) → n ≤ k → state t o k ≡ Reserved)
every_size d base n p l e h b = every_state d base n (λ k. Free) p l e h (λ k i. free_possible base k (omega arith))
