-- Words written whole, and summaries mended level by level. Assumes nothing.
use Rattle.std.specs.Prelude.{◌≡◌, List, ℕ, ◌+◌, ◌-◌, ◌/◌, ◌<◌, ◌≤◌, min, length, get_or}
use Rattle.base.specs.Ranges.{Outside}
use Rattle.bitmap_tree.specs.Tree.{node_bit, Summarised, Agree, AgreeBut}

-- t' is t with x as each of its words from p up to q
pub record Stored (t : List ℕ) (p q x : ℕ) (t' : List ℕ) : Type 0 where
  pub long : length t' ≡ length t
  pub inside : (n : ℕ) → p ≤ n → n < q → get_or t' n 0 ≡ x
  pub outside : (n : ℕ) → Outside p q n → get_or t' n 0 ≡ get_or t n 0

-- each word between a and b, these two left out, has a set bit if v is 1, and none if v is 0
unfoldable pub Between : List ℕ → ℕ → ℕ → ℕ → Type 0
Between t a b v = (n : ℕ) → a < n → n < b → min 1 (get_or t n 0) ≡ v

-- t' is t with the words from f to b summarised, but for those words that this changed: the parents of the words from f to b
pub record Noted (t : List ℕ) (f b v : ℕ) (t' : List ℕ) : Type 0 where
  pub long : length t' ≡ length t
  pub same : (k : ℕ) → 0 < k → Outside f (b + 1) k → node_bit t' k ≡ node_bit t k
  pub words : (n : ℕ) → Outside ((f - 1) / 16) ((b - 1) / 16 + 1) n → get_or t' n 0 ≡ get_or t n 0
  pub done : (n : ℕ) → f ≤ n → n ≤ b → Outside ((f - 1) / 16) ((b - 1) / 16 + 1) n → Summarised t' n
  pub between : Between t' ((f - 1) / 16) ((b - 1) / 16) v

-- no frame changed from t to t', and where only the words from a to b were not summarised, all are
pub record Mended (t : List ℕ) (a b : ℕ) (t' : List ℕ) : Type 0 where
  pub long : length t' ≡ length t
  pub frames : (k : ℕ) → length t ≤ k → node_bit t' k ≡ node_bit t k
  pub agree : AgreeBut t a b → Agree t'
