-- The way up from a node whose bit is written, word by word, for as long as summaries change. Assumes nothing.
use mathlib.Core.Path.{◌≡◌, refl, sym, ap, ◌∙◌}
use mathlib.Core.List.{List}
use Prim.Native.Nat.{ℕ, ◌+◌, ◌-◌, ◌*◌, ◌/◌, ◌≤◌, ◌<◌, min}
use native.Mathlib.Decide.{ℕ_discrete}
use native.Mathlib.Omega.{arith}
use lib.ListN.{length, get_or}
use Rattle.bitmap_tree.specs.Tree.{node_bit, Summarised, Agree, AgreeBut}
use Rattle.bitmap_tree.specs.Writes.{Painted, Climbed, Changed}

-- what the climb from node j with the bit v rests on: j is a frame, or v is its summary, and every other word is summarised
abbrev Rests : List ℕ → ℕ → ℕ → Type 0
Rests t j v = AgreeBut t j j × (j < length t → min 1 (get_or t j 0) ≡ v)

-- on the way up from node j, which is to be v: t₀ has become t, and the bit of node n is next, which is to be u
pub record Climbing (t₀ t : List ℕ) (j v n u : ℕ) : Type 0 where
  pub long : length t ≡ length t₀
  pub two : u < 2
  pub top : n ≤ j
  pub start : (n ≡ j → u ≡ v) × (length t₀ ≤ n → n ≡ j)
  pub here : n < j → length t₀ ≤ j → node_bit t j ≡ v
  pub there : (k : ℕ) → length t₀ ≤ k → (k ≡ j → ⊥) → node_bit t k ≡ node_bit t₀ k
  pub word : Rests t₀ j v → n < length t₀ → min 1 (get_or t n 0) ≡ u
  pub agree : Rests t₀ j v → (m : ℕ) → 0 < m → m < length t₀ → (m ≡ n → ⊥) → Summarised t m

pub climb_start : (t : List ℕ) (j v : ℕ) → v < 2 → Climbing t t j v j v
unfolding AgreeBut
climb_start t j v two = record {
  long = refl;
  two = two;
  top = omega arith;
  start = (λ _. refl, λ _. refl);
  here = λ l. absurd (omega arith);
  there = λ k l ne. refl;
  word = λ r. r.1;
  agree = λ r m p l ne. r.0 m p l (λ x y. ne (omega arith));
}

-- the climb is over once the next word needs no change
pub climb_done : (t₀ t : List ℕ) (j v n u : ℕ) → Climbing t₀ t j v n u → n < j → (Rests t₀ j v → 0 < n → Summarised t n) → Climbed t₀ j v t
unfolding Agree
climb_done t₀ t j v n u c l last = record {
  long = c.long;
  here = c.here l;
  there = c.there;
  agree = λ a w m p h. agree (a, w) m p h (ℕ_discrete m n);
}
  where
    agree : Rests t₀ j v → (m : ℕ) → 0 < m → m < length t → Dec (m ≡ n) → Summarised t m
    agree r m p h (yes e) = rw e (last r (omega arith))
    agree r m p h (no d) = let e = c.long in c.agree r m p (omega arith) d

module _ (t₀ t t' : List ℕ) (j v n u : ℕ) (range : j ≤ 16 * length t₀) (pos : 0 < n) (c : Climbing t₀ t j v n u) (put : Painted t n (n + 1) u t') where
  -- a node of the way up has a word for its parent
  parent_lt : (n - 1) / 16 < length t₀
  parent_lt = let e = c.top in omega arith

  -- one word further up, whose summary is to be w
  pub climb_step : (w : ℕ) → w ≡ min 1 (get_or t' ((n - 1) / 16) 0) → Climbing t₀ t' j v ((n - 1) / 16) w
  climb_step w new = record {
    long = put.long ∙ c.long;
    two = omega arith;
    top = let e = c.top in omega arith;
    start = (λ e. let o = c.top in absurd (omega arith), λ l. let e = parent_lt in absurd (omega arith));
    here = λ _ l. here l (ℕ_discrete n j);
    there = λ k l ne. there k l ne (ℕ_discrete n j);
    word = λ _ _. sym new;
    agree = λ r m p l ne. agree r m p l ne (ℕ_discrete m n);
  }
    where
      here : length t₀ ≤ j → Dec (n ≡ j) → node_bit t' j ≡ v
      here l (no d) = let o = c.top in put.outside j (omega arith) (λ x y. d (omega arith)) ∙ c.here (omega (arith, d)) l
      here l (yes e) = put.inside j (omega arith) (omega arith) ∙ c.start.0 e

      there : (k : ℕ) → length t₀ ≤ k → (k ≡ j → ⊥) → Dec (n ≡ j) → node_bit t' k ≡ node_bit t₀ k
      there k l ne (yes e) = put.outside k (omega arith) (λ x y. ne (omega arith)) ∙ c.there k l ne
      there k l ne (no d) = put.outside k (omega arith) (λ x y. d (c.start.1 (omega arith))) ∙ c.there k l ne

      agree : Rests t₀ j v → (m : ℕ) → 0 < m → m < length t₀ → (m ≡ (n - 1) / 16 → ⊥) → Dec (m ≡ n) → Summarised t' m
      agree r m p l ne (yes e) =
          rw e (put.inside n (omega arith) (omega arith) ∙ sym (c.word r (omega arith)) ∙ ap (λ (x : ℕ). min 1 x) (sym (put.words n (λ x y. omega arith))))
      agree r m p l ne (no d) =
          put.outside m p (λ x y. d (omega arith)) ∙ c.agree r m p l d ∙ ap (λ (x : ℕ). min 1 x) (sym (put.words m (λ x y. ne (omega arith))))

  -- a word whose summary is what it was ends the climb
  pub climb_stop : min 1 (get_or t ((n - 1) / 16) 0) ≡ min 1 (get_or t' ((n - 1) / 16) 0) → Climbed t₀ j v t'
  climb_stop same =
      let o = c.top in
      climb_done t₀ t' j v ((n - 1) / 16) _ (climb_step _ refl) (omega arith) (λ r p.
      put.outside ((n - 1) / 16) p (λ x y. omega arith) ∙ c.agree r ((n - 1) / 16) p parent_lt (λ e. omega arith) ∙ same)

-- a climb from a frame changes that frame and no other
pub changed_one : (t t' : List ℕ) (k v : ℕ) → Climbed t (length t + k) v t' → Changed t k (k + 1) v t'
unfolding Agree AgreeBut
changed_one t t' k v c = record {
  inside = λ m g h. let e : m ≡ k = omega arith in rw (c.long, e) (c.here (omega arith));
  others = λ m o. rw c.long (c.there (length t + m) (omega arith) (λ e. o (omega arith) (omega arith)));
  long = c.long;
  agree = λ a. c.agree (λ n p l _. a n p l) (λ l. absurd (omega arith));
}
