-- What is told of a machine is what the step tests. Assumes nothing.
use mathlib.Core.Path.{◌≡◌, refl, sym, ◌∙◌, ap, subst}
use mathlib.Core.Bool.{Bool, true, false, not}
use mathlib.Core.List.{List}
use Prim.Native.Nat.{ℕ, ◌+◌, ◌*◌, ◌<◌, ◌≤◌}
use lib.ListN.{length}
use native.Mathlib.Decide.{dec_lt}
use native.Mathlib.Omega.{arith}
use Rattle.std.specs.Prelude.{Result, Ok, Err}
use Rattle.std.specs.Result.{IsErrAnd}
use Rattle.base.specs.Search.{Stops}
use Rattle.base.specs.Choices.{both, all_from}
use Rattle.base.proofs.Choices.{never, all_yes, all_at, not_passed}
use Rattle.set_model.specs.Sets.{none}
use Rattle.set_slots.specs.Slots.{regions_in, SetOk}
use Rattle.set_claims.specs.declared.Bad.{Bad}
use Rattle.set_claims.specs.Claims.{BadSays}
use Rattle.bitmap_tree.specs.Tree.{cap}
use Rattle.owners.specs.States.{State.Owned, state, Matched}
use Rattle.owners.proofs.States.{behind_reserved, client_not_reserved}
use Rattle.claims.specs.declared.Unfit.{Unfit}
use Rattle.claims.specs.Fits.{Misfit}
use Rattle.machine.specs.declared.Which.{Which}
use Rattle.machine.specs.declared.Which.TheVariants.{Processors, Devices}
use Rattle.machine.specs.State.{Plan, State, is_mine}
use Rattle.machine.specs.Step.{is_empty}
use Rattle.machine.proofs.Frames.{is_mine_lem, not_mine}
use Rattle.zones.specs.Layout.{set_at}
use Rattle.hv_state.proofs.Places.{set_high}
use Rattle.hv_empty.specs.Empty.{bare, RegionsSay, Owns}
use Rattle.hv_empty.specs.declared.Corrupt.{Corrupt}

-- what is told of the words at a set's beginning is told of the set
pub bare_is : (z : List ℕ) (place slots at : ℕ) (w : Which) (v : Bool) → at ≡ set_at place slots w → none (regions_in z at slots) ≡ v → bare z place slots w ≡ v
bare_is z place slots at w v e f = ap (λ (x : ℕ). none (regions_in z x slots)) (sym e) ∙ f

-- a set that lies within the words and is in order can be read
pub no_set_lem : (z : List ℕ) (place slots at : ℕ) (w : Which) (why : Bad) → place + (3 + 8 * slots) ≤ length z → at ≡ set_at place slots w → BadSays z at slots why → ((v : Which) → SetOk z (set_at place slots v) slots) → ⊥
no_set_lem z place slots at w Bad.NoSet l e b ok = b (let h = set_high place slots w in omega arith)
no_set_lem z place slots at w Bad.Corrupt l e b ok = b.broken (subst (λ (x : ℕ). SetOk z x slots) (sym e) (ok w))

-- and sets of which one cannot be are not all in order
pub unread : (P : Corrupt → Type 0) (z : List ℕ) (place slots : ℕ) (r : Result Bool Corrupt) → IsErrAnd r P → (((v : Which) → SetOk z (set_at place slots v) slots) → ⊥) → RegionsSay z place slots r
unread P z place slots (Ok b) e n = absurd e
unread P z place slots (Err c) e n = n

-- where the first set has a region one has, and where it has none the second tells
pub no_first : (a b : Bool) → a ≡ false → both a b ≡ false
no_first a b e = rw e

pub as_second : (a b v : Bool) → a ≡ true → b ≡ v → both a b ≡ v
as_second a b v e f = rw (e, f)

-- memories that match fit at the base 0
pub no_fit : (t o : List ℕ) (why : Unfit) → Misfit 0 t o why → Matched t o → ⊥
no_fit t o Unfit.NotFull d m = d m.full
no_fit t o Unfit.Unmatched d m = d.1 m.bytes
no_fit t o Unfit.BadBase d m = d.1 refl

-- a search that reaches the end met no frame of the client's
pub none_owned : (t o : List ℕ) (c r : ℕ) → Matched t o → Stops (λ k. state t o k ≡ Owned c → ⊥) 0 (cap t) r → cap t ≤ r → (k : ℕ) → state t o k ≡ Owned c → ⊥
none_owned t o c r m s l k e = go (dec_lt k (cap t))
  where
    go : Dec (k < cap t) → ⊥
    go (yes h) = s.before k (omega arith) (omega arith) e
    go (no h) = client_not_reserved c (sym e ∙ behind_reserved t o k m.bytes (omega (arith, h)))

-- one that stops before met one
pub one_owned : (t o : List ℕ) (c r : ℕ) → Dec (state t o r ≡ Owned c) → Stops (λ k. state t o k ≡ Owned c → ⊥) 0 (cap t) r → r < cap t → (k : ℕ) × Owns t o c k
one_owned t o c r (yes e) s l = (r, record { within = l; is = e })
one_owned t o c r (no d) s l = absurd (s.fails l d)

-- ---- the step's test

both_first : (a b c : Bool) → both a b ≡ false → both a (both b c) ≡ false
both_first true true c e = never e
both_first true false c e = refl
both_first false b c e = refl

both_last : (a b c : Bool) → c ≡ false → both a (both b c) ≡ false
both_last true true c e = e
both_last true false c e = refl
both_last false b c e = refl

both_all : (a b c : Bool) → both a b ≡ true → c ≡ true → both a (both b c) ≡ true
both_all true true c e f = f
both_all true false c e f = never (sym e)
both_all false b c e f = never (sym e)

module _ (p : Plan) (s : State) (m : ℕ) where
  pub has_region : both (none (s.set m Processors)) (none (s.set m Devices)) ≡ false → is_empty p s m ≡ false
  has_region e = both_first (none (s.set m Processors)) (none (s.set m Devices)) (all_from (λ k. not (is_mine m (s.frame k))) 0 p.frames) e

  pub has_frame : (k : ℕ) → k < p.frames → s.frame k ≡ Owned m → is_empty p s m ≡ false
  has_frame k l e = both_last (none (s.set m Processors)) (none (s.set m Devices)) (all_from (λ k. not (is_mine m (s.frame k))) 0 p.frames) (not_passed (all_from (λ k. not (is_mine m (s.frame k))) 0 p.frames) (λ a. never (sym (all_at (λ k. not (is_mine m (s.frame k))) 0 p.frames a k (omega arith) (omega arith)) ∙ ap not (is_mine_lem m (s.frame k) e))))

  pub has_nothing : both (none (s.set m Processors)) (none (s.set m Devices)) ≡ true → ((k : ℕ) → s.frame k ≡ Owned m → ⊥) → is_empty p s m ≡ true
  has_nothing e f = both_all (none (s.set m Processors)) (none (s.set m Devices)) (all_from (λ k. not (is_mine m (s.frame k))) 0 p.frames) e (all_yes (λ k. not (is_mine m (s.frame k))) 0 p.frames (λ j a b. ap not (not_mine m (s.frame j) (f j))))
