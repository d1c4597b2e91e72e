-- What is known of who asks. Assumes nothing.
use mathlib.Core.Path.{◌≡◌, ◌∙◌, sym, subst}
use mathlib.Core.Bool.{true, false}
use mathlib.Core.List.{List}
use Prim.Native.Nat.{ℕ, ◌<◌}
use lib.ListN.{get_or}
use Rattle.std.proofs.Common.{Ok, Err}
use native.Mathlib.Omega.{arith}
use borrow.Author.Tests.{eq-eqb, ne_eqb}
use Rattle.machine.specs.declared.Request.{Request}
use Rattle.machine.specs.declared.Reason.{Reason}
use Rattle.machine.specs.declared.Refusal.{Refusal}
use Rattle.machine.specs.declared.Answer.{Answer}
use Rattle.machine.specs.State.{State, out}
use Rattle.machine.specs.Step.{machine_of, absent}
use Rattle.machine.specs.Refusals.{refused}
use Rattle.machine.proofs.Cases.{of_absent, of_nobody}
use Rattle.config_view.specs.Table.{table_config}
use Rattle.zones.specs.declared.Zone.{Zone}
use Rattle.zones.specs.declared.Located.{Located}
use Rattle.zones.specs.declared.NotLocated.{NotLocated}
use Rattle.zones.specs.Layout.{slots_in, place_of, LocateSays, not_located}
use Rattle.zones.proofs.Laws.{not_corrupt}
use Rattle.hv_state.specs.Memory.{Mem, config_in, plan_of, decode, present_in, Sound}
use Rattle.hv_state.specs.Serving.{Served}
use Rattle.hv_state.proofs.Serving.{refuses, unsound}
use Rattle.hv_state.proofs.Zones.{present_is}
use Rattle.hv_asker.specs.Asking.{Here, Away, Nobody, Disordered, Unasked, Unheard}

-- a machine whose first word is 1 is there, and one whose first word is 0 is not
pub flag_here : (z : List ℕ) (n m : ℕ) → m < n → get_or z (place_of (slots_in z n) m) 0 ≡ 1 → present_in z n m ≡ true
flag_here z n m l e = present_is z n m l ∙ eq-eqb (get_or z (place_of (slots_in z n) m) 0) 1 e

pub flag_away : (z : List ℕ) (n m : ℕ) → m < n → get_or z (place_of (slots_in z n) m) 0 ≡ 0 → present_in z n m ≡ false
flag_away z n m l e = present_is z n m l ∙ ne_eqb (get_or z (place_of (slots_in z n) m) 0) 1 (λ f. omega (arith, e))

-- a machine that is located there is there, and one that is not is not
pub is_here : (t z : List ℕ) (number : ℕ) (zone : Zone) → LocateSays t z number (Ok (Located.Here zone)) → Here t z number
is_here t z number zone h = record { machine = h.1.0.machine; present = flag_here z (table_config t).machines (machine_of (table_config t) number) h.1.0.machine h.1.1 }

pub is_away : (t z : List ℕ) (number : ℕ) (zone : Zone) → LocateSays t z number (Ok (Located.Away zone)) → Away t z number
is_away t z number zone h = record { machine = h.1.0.machine; absent = flag_away z (table_config t).machines (machine_of (table_config t) number) h.1.0.machine h.1.1 }

-- a machine that is not located does not ask
pub unlocated : (t z : List ℕ) (number : ℕ) (why : NotLocated) → LocateSays t z number (Err why) → Unheard t z number (not_located why)
unlocated t z number NotLocated.NoMachine h = Unasked.IsNobody (record { none = h.1 })
unlocated t z number NotLocated.Corrupt h = not_corrupt t z number h

-- sound memories are in order
pub disordered : (b : Mem) → Disordered b.table b.zones → Sound b → ⊥
disordered b d s = d s.table.table.long s.zones.flagged

-- a request other than the first of a machine is refused alike where nobody asks
pub unasked : (b : Mem) (number : ℕ) (q : Request) (why : Reason) → ((s : State) (m : ℕ) → absent s m q ≡ out (Answer.No Reason.NotPresent) s) → Unasked b.table b.zones number why → Served b number q b (Answer.No why)
unasked b number q why a (Unasked.IsNobody n) = refuses b number q (Answer.No Reason.NoMachine) (λ h. of_nobody (plan_of b) (decode b) number q n.none)
unasked b number q why a (Unasked.IsAway w) = refuses b number q (Answer.No Reason.NotPresent) (λ h. of_absent (plan_of b) (decode b) number q w.machine w.absent ∙ a (decode b) (machine_of (config_in b) number))

-- and so is one that is refused before it is looked at
pub unheard : (b : Mem) (number : ℕ) (q : Request) (why : Refusal) (a : Answer) → ((s : State) (m : ℕ) → absent s m q ≡ out (Answer.No Reason.NotPresent) s) → a ≡ refused why → Unheard b.table b.zones number why → Served b number q b a
unheard b number q (Refusal.No why) a f e u = subst (λ (x : Answer). Served b number q b x) (sym e) (unasked b number q why f u)
unheard b number q Refusal.Corrupt a f e u = subst (λ (x : Answer). Served b number q b x) (sym e) (unsound b number q Answer.Corrupt (disordered b u))
