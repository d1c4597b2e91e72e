-- The start: every frame reserved, and then the first n free. Assumes nothing.
use mathlib.Core.Path.{◌≡◌, refl, ◌∙◌}
use mathlib.Core.List.{List}
use Prim.Native.Nat.{ℕ, ◌+◌, ◌%◌, ◌≤◌, ◌<◌}
use native.Mathlib.Decide.{dec_lt}
use native.Mathlib.Omega.{arith}
use lib.ListN.{length, get_or, get_or-eq_default}
use Rattle.bitmap_tree.specs.Tree.{free, cap}
use Rattle.bitmap_tree.specs.Writes.{Changed}
use Rattle.bitmap_tree.proofs.Nodes.{parent_none}
use Rattle.bitmap_allocator.specs.Changes.{Reset}
use Rattle.owners.specs.States.{State.Free, State.Reserved, state, Matched, Accounted}
use Rattle.owners.specs.Writes.{Filled, Assigned, Became}
use Rattle.owners.proofs.States.{state_of_lem, of_reserved, same_right}
use Rattle.owners.proofs.Writes.{became, still, free_right, reserved_right}
use Rattle.owner_passes.specs.Passes.{Begun}

-- no frame is changed
pub change_none : (t : List ℕ) (a b v : ℕ) → b ≤ a → Changed t a b v t
change_none t a b v l = record { inside = λ k p q. absurd (omega arith); others = λ k x. refl; long = refl; agree = λ x. x }

module _ (t o : List ℕ) (t₁ o' : List ℕ) (m : Matched t o) (w : Reset t t₁) (f : Filled o 0 (length o) 255 o') where
  -- nobody is any frame's owner
  nobody : (k : ℕ) → get_or o' k 255 ≡ 255
  nobody k = go (dec_lt k (length o))
    where
      go : Dec (k < length o) → get_or o' k 255 ≡ 255
      go (yes l) = f.inside k (omega arith) l
      go (no g) = get_or-eq_default o' 255 (let e = f.long in omega (arith, g))

  -- no frame is free
  taken : (k : ℕ) → free t₁ k ≡ 0
  taken k = go (dec_lt k (cap t₁))
    where
      go : Dec (k < cap t₁) → free t₁ k ≡ 0
      go (yes l) = w.taken k (omega arith) l
      go (no g) = parent_none t₁ (length t₁ + k) (get_or-eq_default t₁ 0 (omega (arith, g)))

  none_free : (k : ℕ) → state t₁ o' k ≡ Reserved
  none_free k = let e = taken k in let n = nobody k in state_of_lem t₁ o' k ∙ of_reserved (free t₁ k) (get_or o' k 255) (λ q. omega arith) (λ l. omega arith)

  start_accounted : (base : ℕ) → base % 4096 ≡ 0 → Accounted base t₁ o'
  start_accounted base e = record {
    matched = let l = w.long in let n = f.long in let s = m.bytes in record { full = rw l m.full; bytes = omega arith };
    aligned = e;
    agree = w.agree;
    right = λ k l. same_right base k 0 255 _ _ (taken k) (nobody k) (reserved_right base k);
  }

  -- the first n frames become free
  pub begun : (n : ℕ) (t'' : List ℕ) → Changed t₁ 0 n 1 t'' → Begun t o n t'' o'
  begun n t'' c = record {
    free = λ k l. now.inside k (omega arith) l;
    reserved = λ k l. now.others k (λ _ h. omega arith) ∙ none_free k;
    words = c.long ∙ w.long;
    bytes = f.long;
    accounted = λ base e h. still t₁ o' 0 n 1 255 t'' o' given base (start_accounted base e) (λ k _ l. free_right base k (omega arith));
  }
    where
      given : Assigned t₁ o' 0 n 1 255 t'' o'
      given = record { bits = c; bytes = record { long = refl; inside = λ k _ _. nobody k; outside = λ k _. refl } }

      now : Became t₁ o' 0 n Free t'' o'
      now = became t₁ o' 0 n 1 255 t'' o' given Free refl
