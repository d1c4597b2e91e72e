-- A look along the frames, a word at a time. Assumes nothing.
use mathlib.Core.Path.{◌≡◌, ◌∙◌}
use mathlib.Core.List.{List}
use Prim.Native.Nat.{ℕ, ◌+◌, ◌-◌, ◌*◌, ◌/◌, ◌%◌, ◌≤◌, ◌<◌, min}
use native.Mathlib.Decide.{dec_lt}
use native.Mathlib.Omega.{arith}
use lib.ListN.{length, get_or}
use Rattle.base.specs.Search.{Stops}
use Rattle.bits16.specs.Bits.{Lowest}
use Rattle.bits16.proofs.Laws.{lowest_set}
use Rattle.bitmap_tree.specs.Tree.{free}
use Rattle.bitmap_tree.proofs.Nodes.{bit_in, child_bit}

-- the frames from a up to node n are taken
pub record Along (t : List ℕ) (a n : ℕ) : Type 0 where
  pub low : length t + a ≤ n
  pub taken : (k : ℕ) → a ≤ k → length t + k < n → free t k ≡ 0

module _ (t : List ℕ) (a n i : ℕ) (pos : 0 < n) (g : Along t a n) (l : Lowest (get_or t ((n - 1) / 16) 0) ((n - 1) % 16) i) where
  -- none of the frames before the set bit is free
  pub word_taken : (k : ℕ) → a ≤ k → length t + k < 16 * ((n - 1) / 16) + 1 + i → i ≤ 16 → free t k ≡ 0
  word_taken k lo hi fits = go (dec_lt (length t + k) n)
    where
      go : Dec (length t + k < n) → free t k ≡ 0
      go (yes before) = g.taken k lo before
      go (no since) =
          let p : (length t + k - 1) / 16 ≡ (n - 1) / 16 = omega arith in
          bit_in t (length t + k) ((n - 1) / 16) p ∙ l.before ((length t + k - 1) % 16) (omega arith) (omega arith)

  -- no bit of the word is set from n on: the look goes on behind it
  pub word_passed : i ≡ 16 → Along t a (16 * ((n - 1) / 16) + 17)
  word_passed e = let lo = g.low in record {
    low = omega arith;
    taken = λ k x h. word_taken k x (omega arith) (omega arith);
  }

  -- the bit of a frame is set: the look ends there, or at its end
  pub word_ends : (b : ℕ) → i < 16 → n < length t + b → 0 < length t → Stops (λ k. free t k ≡ 0) a b (min (16 * ((n - 1) / 16) + 1 + i - length t) b)
  word_ends b some h p =
      let lo = g.low in
      let from = l.low in
      let e : length t + (16 * ((n - 1) / 16) + 1 + i - length t) ≡ 16 * ((n - 1) / 16) + 1 + i = omega arith in
      let set : free t (16 * ((n - 1) / 16) + 1 + i - length t) ≡ 1 = rw e (child_bit t ((n - 1) / 16) i some ∙ lowest_set (get_or t ((n - 1) / 16) 0) l some) in
      record {
        low = omega arith;
        high = omega arith;
        before = λ k x y. word_taken k x (omega arith) (omega arith);
        fails = λ y z.
            let q : min (16 * ((n - 1) / 16) + 1 + i - length t) b ≡ 16 * ((n - 1) / 16) + 1 + i - length t = omega arith in
            let z' : free t (16 * ((n - 1) / 16) + 1 + i - length t) ≡ 0 = rw q at z in
            omega arith;
      }
