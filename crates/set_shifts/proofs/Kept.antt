-- What a change of some words leaves as it was. Assumes nothing.
use mathlib.Core.Path.{◌≡◌, ◌∙◌, ap}
use mathlib.Core.List.{List}
use Prim.Native.Nat.{ℕ, ◌+◌, ◌<◌}
use native.Mathlib.Omega.{arith}
use Rattle.base.specs.Ranges.{Only}
use Rattle.address.specs.declared.Region.{Region}
use Rattle.region_words.specs.Words.{kind_of, region_of, HasRegion}
use Rattle.region_words.proofs.Laws.{region_once}

-- the four words from p on are none of those from a up to b
abbrev pub Apart : ℕ → ℕ → ℕ → Type 0
Apart a b p = a < p + 4 → p < b → ⊥

-- the region that is read there is the same
pub region_same : {z z' : List ℕ} {a b : ℕ} (p : ℕ) → Only z a b z' → Apart a b p → region_of z' p ≡ region_of z p
unfolding region_of
region_same {z} {z'} p o d =
    region_once (region_of z' p) (region_of z p) (o.others p (λ x y. d (omega arith) (omega arith))) (o.others (p + 1) (λ x y. d (omega arith) (omega arith))) (o.others (p + 2) (λ x y. d (omega arith) (omega arith)))
    (ap kind_of (o.others (p + 3) (λ x y. d (omega arith) (omega arith))))

-- and so are its words
pub words_same : {z z' : List ℕ} {a b p : ℕ} {r : Region} → Only z a b z' → Apart a b p → HasRegion z p r → HasRegion z' p r
words_same {p = p} o d h =
    record {
      guest = o.others p (λ x y. d (omega arith) (omega arith)) ∙ h.guest;
      host = o.others (p + 1) (λ x y. d (omega arith) (omega arith)) ∙ h.host;
      pages = o.others (p + 2) (λ x y. d (omega arith) (omega arith)) ∙ h.pages;
      kind = o.others (p + 3) (λ x y. d (omega arith) (omega arith)) ∙ h.kind;
    }
