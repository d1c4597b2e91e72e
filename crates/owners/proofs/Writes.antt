-- What writing bits and bytes does to the states, and what the searches find. Assumes nothing.
use mathlib.Core.Path.{◌≡◌, refl, sym, ◌∙◌, ap₂, subst}
use mathlib.Core.List.{List, [], ◌∷◌}
use Prim.Native.Nat.{ℕ, zero, suc, ◌+◌, ◌≤◌, ◌<◌}
use native.Mathlib.Decide.{ℕ_discrete, dec_le, dec_lt}
use native.Mathlib.Omega.{arith}
use lib.ListN.{length, get_or, set, length-set}
use lib.Seq.{get_or-set_same, get_or-set_other}
use Rattle.base.specs.Ranges.{Outside}
use Rattle.base.specs.Search.{Stops}
use Rattle.bitmap_tree.specs.Tree.{free, cap}
use Rattle.bitmap_tree.proofs.Nodes.{bit_clear}
use Rattle.owners.specs.States.{State, State.Reserved, State.Owned, state_of, state, HasOwner, Unowned, Placed, Right, RightAt, Accounted}
use Rattle.owners.specs.Writes.{Filled, Assigned, Became, Kept}
use Rattle.owners.proofs.States.{state_of_lem, state_told, same_state, owned_state, same_right}

-- ---- bytes

-- a byte that is there, read with another byte for those that are not
pub byte_at : (o : List ℕ) (k : ℕ) → k < length o → get_or o k 0 ≡ get_or o k 255
byte_at [] k l = absurd (omega arith)
byte_at (x ∷ o) zero l = refl
byte_at (x ∷ o) (suc k) l = byte_at o k (omega arith)

pub fill_none : (o : List ℕ) (a c : ℕ) → Filled o a a c o
fill_none o a c = record { long = refl; inside = λ k l h. absurd (omega arith); outside = λ k x. refl }

-- one byte more
pub fill_more : (o : List ℕ) (a k c : ℕ) (o' : List ℕ) → a ≤ k → k < length o' → Filled o a k c o' → Filled o a (k + 1) c (set o' k c)
fill_more o a k c o' l h f = record {
  long = length-set o' k c ∙ f.long;
  inside = λ m lo hi. here m lo hi (ℕ_discrete m k);
  outside = λ m x. get_or-set_other o' k m c 255 (λ e. x (omega arith) (omega arith)) ∙ f.outside m (λ p q. x p (omega arith));
}
  where
    here : (m : ℕ) → a ≤ m → m < k + 1 → Dec (m ≡ k) → get_or (set o' k c) m 255 ≡ c
    here m lo hi (yes e) = rw e (get_or-set_same o' k c 255 h)
    here m lo hi (no d) = get_or-set_other o' k m c 255 d ∙ f.inside m lo (omega (arith, d))

-- nothing is changed
pub kept : (t o : List ℕ) → Kept t o t o
kept t o = record { words = refl; bytes = refl }

-- ---- states

module _ (t o : List ℕ) (a b v c : ℕ) (t' o' : List ℕ) (x : Assigned t o a b v c t' o') where
  -- the frames that were written are what the bit and the byte say
  pub became : (s : State) → state_of v c ≡ s → Became t o a b s t' o'
  became s e = record {
    inside = λ k l h. state_of_lem t' o' k ∙ ap₂ state_of (x.bits.inside k l h) (x.bytes.inside k l h) ∙ e;
    others = λ k out. same_state t o t' o' k (x.bits.others k out) (x.bytes.outside k out);
    words = x.bits.long;
    bytes = x.bytes.long;
  }

  -- the memories stay an allocator's, where the bit and the byte are in order for each frame that was written
  pub still : (base : ℕ) → Accounted base t o → ((k : ℕ) → a ≤ k → k < b → Right base k v c) → Accounted base t' o'
  still base r in_order = record {
    matched = let m = r.matched in let l = x.bits.long in let n = x.bytes.long in let s = m.bytes in record { full = rw l m.full; bytes = omega arith };
    aligned = r.aligned;
    agree = x.bits.agree r.agree;
    right = λ k l. at k (let e = x.bits.long in omega arith) (dec_le a k) (dec_lt k b);
  }
    where
      at : (k : ℕ) → k < cap t → Dec (a ≤ k) → Dec (k < b) → RightAt base t' o' k
      at k l (yes p) (yes q) = same_right base k v c _ _ (x.bits.inside k p q) (x.bytes.inside k p q) (in_order k p q)
      at k l (yes p) (no q) = other k l (λ p q'. q q')
        where
          other : (k : ℕ) → k < cap t → Outside a b k → RightAt base t' o' k
          other k l out = same_right base k _ _ _ _ (x.bits.others k out) (x.bytes.outside k out) (r.right k l)
      at k l (no p) d = same_right base k _ _ _ _ (x.bits.others k (λ p' q. p p')) (x.bytes.outside k (λ p' q. p p')) (r.right k l)

-- a client's frames are in order wherever frames that were not reserved are
pub owned_right : (base k c : ℕ) → c < 64 → Placed base k → Right base k 0 c
owned_right base k c l p = record { known = λ _. l; nobody = λ e. absurd (omega arith); reach = λ _. p }

pub free_right : (base k : ℕ) → Placed base k → Right base k 1 255
free_right base k p = record { known = λ n. absurd (n refl); nobody = λ _. refl; reach = λ _. p }

pub reserved_right : (base k : ℕ) → Right base k 0 255
reserved_right base k = record { known = λ n. absurd (n refl); nobody = λ _. refl; reach = λ n. absurd (n refl) }

-- a frame that is not reserved has its place
pub has_place : (base : ℕ) (t o : List ℕ) (k : ℕ) (s : State) → Accounted base t o → k < cap t → state t o k ≡ s → (s ≡ Reserved → ⊥) → Placed base k
has_place base t o k s r l e n = (r.right k l).reach (λ q. n (sym e ∙ state_of_lem t o k ∙ q))

-- ---- searches

-- the frames whose byte is c, and of those the taken ones
pub owned_stops : (t o : List ℕ) (a b c m r : ℕ) → c < 64 → Stops (λ k. get_or o k 255 ≡ c) a b m → Stops (λ k. free t k ≡ 0) a m r → Stops (λ k. state t o k ≡ Owned c) a b r
owned_stops t o a b c m r l x y =
    let low = y.low in let high = y.high in let top = x.high in
    record {
      low = low;
      high = omega arith;
      before = λ k p q. owned_state t o k c (y.before k p q) (x.before k p (omega arith)) l;
      fails = λ q e. ends q (state_told t o r (Owned c) e) (dec_lt r m);
    }
  where
    ends : r < b → (free t r ≡ 1 → ⊥) × (get_or o r 255 ≡ c) × (c < 64) → Dec (r < m) → ⊥
    ends q e (yes p) = y.fails p (taken e)
      where
        taken : (free t r ≡ 1 → ⊥) × (get_or o r 255 ≡ c) × (c < 64) → free t r ≡ 0
        taken e = bit_clear t _ e.0
    ends q e (no g) = let h = y.high in let s : r ≡ m = omega arith in x.fails (omega arith) (subst (λ (k : ℕ). get_or o k 255 ≡ c) s e.1)

-- a frame whose byte names nobody has no owner, nor has a free one
pub unnamed : (t o : List ℕ) (k : ℕ) → 64 ≤ get_or o k 255 → Unowned t o k
unnamed t o k n e = let x = state_told t o k (Owned e.client) e.is in let q = x.1 in let l = x.2 in omega arith

pub free_unowned : (t o : List ℕ) (k : ℕ) → (free t k ≡ 0 → ⊥) → Unowned t o k
free_unowned t o k n e = let x = state_told t o k (Owned e.client) e.is in n (bit_clear t _ x.0)

-- a named frame that is taken has an owner
pub named : (t o : List ℕ) (k : ℕ) → free t k ≡ 0 → get_or o k 255 < 64 → HasOwner t o k
named t o k e l = record { client = get_or o k 255; is = owned_state t o k (get_or o k 255) e refl l }

-- a frame of which it can't be that no client owns it has an owner
pub owner : (t o : List ℕ) (k : ℕ) → (Unowned t o k → ⊥) → HasOwner t o k
owner t o k n = go (ℕ_discrete (free t k) 0) (dec_lt (get_or o k 255) 64)
  where
    go : Dec (free t k ≡ 0) → Dec (get_or o k 255 < 64) → HasOwner t o k
    go (yes e) (yes l) = named t o k e l
    go (yes e) (no g) = absurd (n (unnamed t o k (omega (arith, g))))
    go (no d) x = absurd (n (free_unowned t o k d))
