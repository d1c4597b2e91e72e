-- What the contracts assume of a set is met at every number of slots, and every number of regions up to it that there are guest pages for.
-- Assumes nothing.
use mathlib.Core.Path.{◌≡◌, refl, sym, subst}
use mathlib.Core.List.{List, [], ◌∷◌}
use Prim.Native.Nat.{ℕ, zero, suc, ◌+◌, ◌*◌, ◌≤◌, ◌<◌}
use native.Mathlib.Omega.{arith}
use lib.Dec.{lit<}
use lib.ListN.{length, get_or}
use Rattle.address.specs.declared.Kind.{Kind}
use Rattle.address.specs.declared.Region.{Region}
use Rattle.address.specs.Regions.{Valid}
use Rattle.region_words.specs.Words.{nothing, number_of, HasRegion}
use Rattle.region_words.proofs.Laws.{region_back}
use Rattle.set_slots.specs.Slots.{slot, Lies, Empty, UsedOk, SetOk}
use Rattle.set_slots.proofs.Order.{own_kind, set_is_ok}

-- the page at an address, as a region
abbrev page_at : ℕ → Region
page_at addr = record { guest = addr; host = addr; pages = 1; kind = Kind.Ordinary }

-- the words of so many slots, of which the first n hold the pages from addr on, and the others nothing
unfoldable slots_of : ℕ → ℕ → ℕ → List ℕ
slots_of zero n addr = []
slots_of (suc slots) zero addr = 0 ∷ 0 ∷ 0 ∷ 0 ∷ slots_of slots zero addr
slots_of (suc slots) (suc n) addr = addr ∷ addr ∷ 1 ∷ 0 ∷ slots_of slots n (4096 + addr)

-- how many words they are
slots_long : (slots n addr : ℕ) → length (slots_of slots n addr) ≡ 4 * slots
unfolding slots_of
slots_long zero n addr = refl
slots_long (suc slots) zero addr = let e = slots_long slots zero addr in omega arith
slots_long (suc slots) (suc n) addr = let e = slots_long slots n (4096 + addr) in omega arith

-- a region behind four words, and behind one
behind_four : (a b c d : ℕ) (z : List ℕ) (p q : ℕ) (r : Region) → q ≡ p + 4 → HasRegion z p r → HasRegion (a ∷ b ∷ c ∷ d ∷ z) q r
behind_four a b c d z p q r e h =
    let e0 : q ≡ suc (suc (suc (suc p))) = omega arith in
    let e1 : q + 1 ≡ suc (suc (suc (suc (p + 1)))) = omega arith in
    let e2 : q + 2 ≡ suc (suc (suc (suc (p + 2)))) = omega arith in
    let e3 : q + 3 ≡ suc (suc (suc (suc (p + 3)))) = omega arith in
    record { guest = rw e0 h.guest; host = rw e1 h.host; pages = rw e2 h.pages; kind = rw e3 h.kind }

behind_one : (a : ℕ) (z : List ℕ) (p q : ℕ) (r : Region) → q ≡ p + 1 → HasRegion z p r → HasRegion (a ∷ z) q r
behind_one a z p q r e h =
    let e0 : q ≡ suc p = omega arith in
    let e1 : q + 1 ≡ suc (p + 1) = omega arith in
    let e2 : q + 2 ≡ suc (p + 2) = omega arith in
    let e3 : q + 3 ≡ suc (p + 3) = omega arith in
    record { guest = rw e0 h.guest; host = rw e1 h.host; pages = rw e2 h.pages; kind = rw e3 h.kind }

-- slot i of the first n holds page i from addr on
holds_page : (slots n addr i here : ℕ) → here ≡ addr + 4096 * i → i < n → n ≤ slots → HasRegion (slots_of slots n addr) (4 * i) (page_at here)
unfolding slots_of number_of
holds_page zero n addr i here e l h = absurd (omega arith)
holds_page (suc slots) zero addr i here e l h = absurd (omega arith)
holds_page (suc slots) (suc n) addr zero here e l h = record { guest = omega arith; host = omega arith; pages = refl; kind = refl }
holds_page (suc slots) (suc n) addr (suc i) here e l h =
    behind_four addr addr 1 0 (slots_of slots n (4096 + addr)) (4 * i) (4 * suc i) (page_at here) (omega arith)
    (holds_page slots n (4096 + addr) i here (omega arith) (omega arith) (omega arith))

-- and slot i behind them nothing
holds_nothing : (slots n addr i : ℕ) → n ≤ i → i < slots → HasRegion (slots_of slots n addr) (4 * i) nothing
unfolding slots_of number_of
holds_nothing zero n addr i l h = absurd (omega arith)
holds_nothing (suc slots) zero addr zero l h = record { guest = refl; host = refl; pages = refl; kind = refl }
holds_nothing (suc slots) zero addr (suc i) l h =
    behind_four 0 0 0 0 (slots_of slots zero addr) (4 * i) (4 * suc i) nothing (omega arith) (holds_nothing slots zero addr i (omega arith) (omega arith))
holds_nothing (suc slots) (suc n) addr zero l h = absurd (omega arith)
holds_nothing (suc slots) (suc n) addr (suc i) l h =
    behind_four addr addr 1 0 (slots_of slots n (4096 + addr)) (4 * i) (4 * suc i) nothing (omega arith)
    (holds_nothing slots n (4096 + addr) i (omega arith) (omega arith))

-- for every number of slots, and every number of regions up to it and below 2^52, there is a set in order
pub every_size : (slots n : ℕ) → n ≤ slots → n < 4503599627370496 → (z : List ℕ) × Lies z 0 slots × (get_or z 0 0 ≡ n) × SetOk z 0 slots
every_size slots n l h = (set, lies, refl, set_is_ok {n = n} (record { lies = lies; few = l }) refl used empty)
  where
    set : List ℕ
    set = n ∷ slots_of slots n 0

    lies : Lies set 0 slots
    lies = let e = slots_long slots n 0 in omega arith

    held : (i : ℕ) → i < n → HasRegion set (0 + 1 + 4 * i) (page_at (4096 * i))
    held i k =
        behind_one n (slots_of slots n 0) (4 * i) (0 + 1 + 4 * i) (page_at (4096 * i)) (omega arith) (holds_page slots n 0 i (4096 * i) (omega arith) k l)

    empty : (i : ℕ) → n ≤ i → i < slots → Empty set 0 i
    empty i a b = behind_one n (slots_of slots n 0) (4 * i) (0 + 1 + 4 * i) nothing (omega arith) (holds_nothing slots n 0 i a b)

    is : (i : ℕ) → i < n → slot set 0 i ≡ page_at (4096 * i)
    is i k = region_back set (0 + 1 + 4 * i) (page_at (4096 * i)) (held i k)

    valid : (i : ℕ) → i < n → Valid (4096 * i) (4096 * i) 1
    valid i k =
        record { on = record { some = lit< tt; guest_start = omega arith; host_start = omega arith }; guest_end = omega arith; host_end = omega arith }

    used : (i : ℕ) → i < n → UsedOk set 0 i
    used i k =
        record {
          kind = own_kind (held i k);
          valid = subst (λ (r : Region). Valid r.guest r.host r.pages) (sym (is i k)) (valid i k);
          follows = λ j q. rw (is j (omega arith), is i k) (omega arith);
        }
