-- Bytes are one sequence of items at most, and no bytes both are one and break. Assumes nothing.
use mathlib.Core.Path.{◌≡◌, refl, ap}
use mathlib.Core.List.{List, ◌∷◌}
use Prim.Native.Nat.{ℕ}
use native.Mathlib.Omega.{arith}
use Rattle.call_bytes.specs.Framing.{Item, item_at, Framed, Breaks}

-- what is a sequence of items does not break
pub framed_whole : {s : List ℕ} {p q : ℕ} {xs : List Item} → Framed s p xs → Breaks s p q → ⊥
framed_whole (Framed.Ends e) (Breaks.Here l n) = omega arith
framed_whole (Framed.Ends e) (Breaks.Later l b) = omega arith
framed_whole (Framed.Goes l f) (Breaks.Here m n) = n l
framed_whole (Framed.Goes l f) (Breaks.Later m b) = framed_whole f b

-- no bytes are two sequences of items
pub framed_once : {s : List ℕ} {p : ℕ} {xs ys : List Item} → Framed s p xs → Framed s p ys → xs ≡ ys
framed_once (Framed.Ends e) (Framed.Ends e') = refl
framed_once (Framed.Ends e) (Framed.Goes l f) = absurd (omega arith)
framed_once (Framed.Goes l f) (Framed.Ends e) = absurd (omega arith)
framed_once {s} {p} (Framed.Goes l f) (Framed.Goes m g) = ap (λ (zs : List Item). item_at s p ∷ zs) (framed_once f g)
