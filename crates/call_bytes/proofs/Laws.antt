-- The members of a list so far, and the items of a sequence so far. Assumes nothing.
use mathlib.Core.Path.{◌≡◌, sym}
use mathlib.Core.Bool.{true, true≢false}
use mathlib.Core.List.{List, [], ◌∷◌}
use Prim.Native.Nat.{ℕ, zero, suc, ◌+◌, ◌*◌, ◌≤◌, ◌<◌}
use native.Mathlib.Omega.{arith}
use lib.ListN.{length}
use Rattle.call_bytes.specs.Calls.{is_list, Member, Wrong}
use Rattle.call_bytes.specs.Framing.{Item, item_at, behind, Framed, Breaks, Items}

-- ---- a list

-- a list has a byte
pub list_some : (s : List ℕ) (from len : ℕ) → is_list s from len ≡ true → 0 < len
unfolding is_list
list_some s from zero e = absurd (true≢false (sym e))
list_some s from (suc len) e = omega arith

-- the lowest malformed member of a list is found
pub first_wrong : {s : List ℕ} {from len i : ℕ} → is_list s from len ≡ true → 1 + 33 * i < len → ((j : ℕ) → j < i → Member s from len j)
    → (Member s from len i → ⊥) → Wrong (is_list s from len) s from len i
first_wrong e l before wrong = rw e (record { starts = l; before = before; wrong = wrong })

-- ---- a sequence

-- n items lie before p: what the bytes from p on are, all bytes are, with those n
pub record Walked (s : List ℕ) (n p : ℕ) : Type 0 where
  pub within : p ≤ length s
  pub few : n ≤ p
  pub whole : (ys : List Item) → Framed s p ys → Items s (n + length ys)
  pub broken : (q : ℕ) → Breaks s p q → Breaks s 0 q

-- no item lies before the start
pub walked_none : (s : List ℕ) → Walked s 0 0
walked_none s =
    record { within = omega arith; few = omega arith; whole = λ ys f. record { items = ys; framed = f; count = omega arith }; broken = λ q b. b }

-- one more
pub walked_more : {s : List ℕ} {n p : ℕ} → Walked s n p → behind s p ≤ length s → Walked s (n + 1) (behind s p)
walked_more {s} {n} {p} w l =
    let h = w.few in
    record { within = l; few = omega arith; whole = λ ys f. counted ys (w.whole (item_at s p ∷ ys) (Framed.Goes l f)); broken = λ q b. w.broken q (Breaks.Later l b) }
  where
    counted : (ys : List Item) → Items s (n + length (item_at s p ∷ ys)) → Items s (n + 1 + length ys)
    counted ys r = let e = r.count in record { items = r.items; framed = r.framed; count = omega arith }

-- at the end
pub walked_all : {s : List ℕ} {n p : ℕ} → Walked s n p → length s ≤ p → Items s n
walked_all {s} {n} w l =
    let h = w.within in
    let r = w.whole [] (Framed.Ends (omega arith)) in
    let e = r.count in record { items = r.items; framed = r.framed; count = omega arith }
