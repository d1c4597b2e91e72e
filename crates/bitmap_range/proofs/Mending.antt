-- Row after row upwards, until every word is summarised. Assumes nothing.
use mathlib.Core.Path.{◌≡◌, refl, sym, ap, ◌∙◌}
use mathlib.Core.List.{List}
use Prim.Native.Nat.{ℕ, ◌+◌, ◌-◌, ◌/◌, ◌≤◌, ◌<◌, min, max}
use native.Mathlib.Decide.{dec_le}
use native.Mathlib.Omega.{arith}
use lib.ListN.{length, get_or}
use Rattle.base.specs.Ranges.{Outside}
use Rattle.bitmap_tree.specs.Tree.{node_bit, cap, Summarised, Agree, AgreeBut}
use Rattle.bitmap_tree.specs.Writes.{Painted, Climbed, Changed}
use Rattle.bitmap_range.specs.Levels.{Between, Noted, Mended}

-- on the way up: t₀ has become t, only the words from a to b may not be summarised, and those between the two are all v
pub record Mending (t₀ : List ℕ) (lo hi : ℕ) (t : List ℕ) (a b v : ℕ) : Type 0 where
  pub long : length t ≡ length t₀
  pub order : a ≤ b
  pub within : b < length t₀
  pub frames : (k : ℕ) → length t₀ ≤ k → node_bit t k ≡ node_bit t₀ k
  pub agree : AgreeBut t₀ lo hi → AgreeBut t a b
  pub between : Between t a b v

pub mend_start : (t : List ℕ) (lo hi v : ℕ) → lo ≤ hi → hi < length t → Between t lo hi v → Mending t lo hi t lo hi v
mend_start t lo hi v l h between = record { long = refl; order = l; within = h; frames = λ k x. refl; agree = λ x. x; between = between }

-- fewer words stand between f and b if f is not before a
pub between_less : (t : List ℕ) (a f b v : ℕ) → a ≤ f → Between t a b v → Between t f b v
unfolding Between
between_less t a f b v l x n g h = x n (omega arith) h

-- one row further up
pub mend_step : (t₀ t t' : List ℕ) (lo hi a b v f : ℕ) → f ≡ max a 1 → 0 < b → Mending t₀ lo hi t a b v → Noted t f b v t'
    → Mending t₀ lo hi t' ((f - 1) / 16) ((b - 1) / 16) v
unfolding AgreeBut
mend_step t₀ t t' lo hi a b v f eq pos c n =
    let o = c.order in
    let w = c.within in
    record {
      long = n.long ∙ c.long;
      order = omega arith;
      within = omega arith;
      frames = λ k x. n.same k (omega arith) (λ y z. omega arith) ∙ c.frames k x;
      agree = λ e m p l ne. agree e m p (let x = n.long in omega arith) ne (dec_le f m) (dec_le m b);
      between = n.between;
    }
  where
    kept : AgreeBut t₀ lo hi → (m : ℕ) → 0 < m → m < length t → Outside ((f - 1) / 16) ((b - 1) / 16 + 1) m → Outside f (b + 1) m → Summarised t' m
    kept e m p l ne o = n.same m p o ∙ c.agree e m p l (λ x y. o (omega arith) y) ∙ ap (λ (z : ℕ). min 1 z) (sym (n.words m ne))

    agree : AgreeBut t₀ lo hi → (m : ℕ) → 0 < m → m < length t → Outside ((f - 1) / 16) ((b - 1) / 16 + 1) m → Dec (f ≤ m) → Dec (m ≤ b) → Summarised t' m
    agree e m p l ne (yes x) (yes y) = n.done m x y ne
    agree e m p l ne (yes x) (no y) = kept e m p l ne (λ u w. omega arith)
    agree e m p l ne (no x) y = kept e m p l ne (λ u w. omega arith)

-- one word is left, whose summary is mended by a climb
pub settled : (t t' : List ℕ) (n v : ℕ) → n < length t → v ≡ min 1 (get_or t n 0) → Climbed t n v t' → Mended t n n t'
settled t t' n v l e c = record {
  long = c.long;
  frames = λ k x. c.there k x (λ q. omega arith);
  agree = λ a. c.agree a (λ _. sym e);
}

-- the root needs no summary
pub settled_root : (t : List ℕ) → Mended t 0 0 t
unfolding Agree AgreeBut
settled_root t = record { long = refl; frames = λ k x. refl; agree = λ a n p l. a n p l (λ x y. omega arith) }

-- the rows below are mended, and then the one word that is left
pub mend_done : (t₀ t t' : List ℕ) (lo hi a b v : ℕ) → b ≤ a → Mending t₀ lo hi t a b v → Mended t b b t' → Mended t₀ lo hi t'
mend_done t₀ t t' lo hi a b v z c m =
    let o = c.order in
    let e : a ≡ b = omega arith in
    let l = c.long in
    record {
      long = m.long ∙ c.long;
      frames = λ k x. m.frames k (omega arith) ∙ c.frames k x;
      agree = λ g. m.agree (rw e at (c.agree g));
    }

module _ (t t' : List ℕ) (a b v : ℕ) (some : 0 < length t) (order : a < b) (top : b ≤ cap t) (p : Painted t (length t + a) (length t + b) v t') where
  -- the words that the frames' bits stand in, but for the two at the ends, are all v
  pub frames_between : Between t' ((length t + a - 1) / 16) ((length t + b - 2) / 16) v
  unfolding Between
  frames_between n l h = p.whole n (omega arith) (omega arith)

  -- frames painted, and the summaries mended above them
  pub changed : (t'' : List ℕ) → Mended t' ((length t + a - 1) / 16) ((length t + b - 2) / 16) t'' → Changed t a b v t''
  unfolding AgreeBut Agree
  changed t'' m =
      let e = m.long in
      let f = p.long in
      record {
        inside = λ k l h. rw (e, f) (m.frames (length t + k) (omega arith) ∙ p.inside (length t + k) (omega arith) (omega arith));
        others = λ k o.
            rw (e, f) (m.frames (length t + k) (omega arith) ∙ p.outside (length t + k) (omega arith) (λ x y. o (omega arith) (omega arith)));
        long = e ∙ f;
        agree = λ g. m.agree (λ n q l o.
            p.outside n q (λ x y. omega arith) ∙ g n q (omega arith) ∙ ap (λ (z : ℕ). min 1 z) (sym (p.words n (λ x y. o x (omega arith)))));
      }
