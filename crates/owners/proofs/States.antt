-- The laws of states: from a bit and a byte to the state, and back. Assumes nothing.
use mathlib.Core.Path.{◌≡◌, refl, sym, ◌∙◌, ap, ap₂, subst}
use mathlib.Core.List.{List}
use mathlib.Core.Bool.{Bool, true, false}
use Prim.Native.Nat.{ℕ, ◌+◌, ◌≤◌, ◌<◌}
use native.Mathlib.Decide.{ℕ_discrete, dec_lt}
use native.Mathlib.Omega.{arith}
use lib.Dec.{eqb, ltb}
use lib.ListN.{length, get_or, get_or-eq_default}
use borrow.Author.Tests.{ltb-true, ltb-false, eqb-true, lt-ltb, le-ltb, ne_eqb}
use Rattle.bitmap_tree.specs.Tree.{free, cap}
use Rattle.bitmap_tree.proofs.Nodes.{bit_clear, parent_none}
use Rattle.owners.specs.States.{State, State.Free, State.Reserved, State.Owned, by_tests, state_of, state, Right}

-- ---- of a bit and a byte

-- what a state says of the bit and the byte
abbrev pub Told : ℕ → ℕ → State → Type 0
Told b c Free = b ≡ 1
Told b c Reserved = (b ≡ 1 → ⊥) × (c < 64 → ⊥)
Told b c (Owned d) = (b ≡ 1 → ⊥) × (c ≡ d) × (d < 64)

-- every bit and byte
pub told_of : (b c : ℕ) → Told b c (state_of b c)
told_of b c = go (eqb b 1) (ltb c 64) refl refl
  where
    go : (x y : Bool) → eqb b 1 ≡ x → ltb c 64 ≡ y → Told b c (by_tests x y c)
    go true y e f = eqb-true b 1 e
    go false true e f = (λ q. bad q e, refl, ltb-true c 64 f)
      where
        bad : b ≡ 1 → eqb b 1 ≡ false → ⊥
        bad q e = let z : eqb 1 1 ≡ false = rw q at e in absurd (let y : ◌≡◌ {A = ℕ} 0 1 = cc in omega arith)
    go false false e f = (λ q. bad q e, λ l. let g = ltb-false c 64 f in omega arith)
      where
        bad : b ≡ 1 → eqb b 1 ≡ false → ⊥
        bad q e = let z : eqb 1 1 ≡ false = rw q at e in absurd (let y : ◌≡◌ {A = ℕ} 0 1 = cc in omega arith)

pub of_free : (b c : ℕ) → b ≡ 1 → state_of b c ≡ Free
of_free b c e = rw e

pub of_owned : (b c : ℕ) → (b ≡ 1 → ⊥) → c < 64 → state_of b c ≡ Owned c
of_owned b c e l = rw (ne_eqb b 1 e, lt-ltb c 64 l)

pub of_reserved : (b c : ℕ) → (b ≡ 1 → ⊥) → (c < 64 → ⊥) → state_of b c ≡ Reserved
of_reserved b c e g = rw (ne_eqb b 1 e, le-ltb c 64 (omega (arith, g)))

-- ---- of a frame

-- the state of a frame, as its bit and byte have it
pub state_of_lem : (t o : List ℕ) (k : ℕ) → state t o k ≡ state_of (free t k) (get_or o k 255)
unfolding state
state_of_lem t o k = refl

-- what the state of a frame says, once it is known
pub state_told : (t o : List ℕ) (k : ℕ) (s : State) → state t o k ≡ s → Told (free t k) (get_or o k 255) s
state_told t o k s e = subst (Told (free t k) (get_or o k 255)) (sym (state_of_lem t o k) ∙ e) (told_of (free t k) (get_or o k 255))

-- the same bit and byte are the same state
pub same_state : (t o t' o' : List ℕ) (k : ℕ) → free t' k ≡ free t k → get_or o' k 255 ≡ get_or o k 255 → state t' o' k ≡ state t o k
unfolding state
same_state t o t' o' k e f = ap₂ state_of e f

pub free_state : (t o : List ℕ) (k : ℕ) → free t k ≡ 1 → state t o k ≡ Free
free_state t o k e = state_of_lem t o k ∙ of_free (free t k) (get_or o k 255) e

pub owned_state : (t o : List ℕ) (k c : ℕ) → free t k ≡ 0 → get_or o k 255 ≡ c → c < 64 → state t o k ≡ Owned c
owned_state t o k c e f l =
    state_of_lem t o k ∙ of_owned (free t k) (get_or o k 255) (λ q. omega arith) (omega arith) ∙ ap Owned f

pub reserved_state : (t o : List ℕ) (k : ℕ) → free t k ≡ 0 → (get_or o k 255 < 64 → ⊥) → state t o k ≡ Reserved
reserved_state t o k e n = state_of_lem t o k ∙ of_reserved (free t k) (get_or o k 255) (λ q. omega arith) n

-- a frame that is not free is taken
pub taken_state : (t o : List ℕ) (k : ℕ) → (state t o k ≡ Free → ⊥) → free t k ≡ 0
taken_state t o k n = bit_clear t _ (λ e. n (free_state t o k e))

-- what is free or a client's is not reserved
pub not_reserved : Free ≡ Reserved → ⊥
not_reserved e = absurd (let z : ◌≡◌ {A = ℕ} 0 1 = cc in omega arith)

pub client_not_reserved : (c : ℕ) → Owned c ≡ Reserved → ⊥
client_not_reserved c e = absurd (let z : ◌≡◌ {A = ℕ} 0 1 = cc in omega arith)

-- the same bit and byte are in order alike
pub same_right : (base k b c b' c' : ℕ) → b' ≡ b → c' ≡ c → Right base k b c → Right base k b' c'
same_right base k b c b' c' e f r = subst (λ (x : ℕ). Right base k x c') (sym e) (subst (λ (x : ℕ). Right base k b x) (sym f) r)

-- whether a frame is the client's can be told
pub dec_owned : (t o : List ℕ) (k c : ℕ) → Dec (state t o k ≡ Owned c)
dec_owned t o k c = go (ℕ_discrete (free t k) 0) (ℕ_discrete (get_or o k 255) c) (dec_lt c 64)
  where
    go : Dec (free t k ≡ 0) → Dec (get_or o k 255 ≡ c) → Dec (c < 64) → Dec (state t o k ≡ Owned c)
    go (yes e) (yes f) (yes l) = yes (owned_state t o k c e f l)
    go (no n) b l = no (λ s. n (bit_clear t _ (state_told t o k (Owned c) s).0))
    go (yes e) (no n) l = no (λ s. n (state_told t o k (Owned c) s).1)
    go (yes e) (yes f) (no n) = no (λ s. n (state_told t o k (Owned c) s).2)

-- behind the last frame nothing is free and nobody an owner
pub behind_reserved : (t o : List ℕ) (k : ℕ) → length o ≡ cap t → cap t ≤ k → state t o k ≡ Reserved
behind_reserved t o k e l =
    let b : get_or o k 255 ≡ 255 = get_or-eq_default o 255 (omega arith) in
    reserved_state t o k (parent_none t (length t + k) (get_or-eq_default t 0 (omega arith))) (λ h. omega arith)
