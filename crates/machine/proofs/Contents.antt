-- Frames are cleared before they are handed out. Assumes nothing.
use mathlib.Core.Path.{◌≡◌, refl, sym, ap}
use mathlib.Core.Bool.{Bool, true, false}
use mathlib.Core.List.{List}
use Prim.Native.Nat.{ℕ, ◌+◌, ◌/◌, ◌%◌, ◌^◌, ◌<◌, ◌≤◌}
use lib.Dec.{eqb, ltb}
use borrow.Author.Tests.{ltb-true}
use Rattle.base.specs.Choices.{lowest}
use Rattle.base.proofs.Choices.{never, by, run_cases, lowest_yes}
use Rattle.owners.specs.States.{State.Free, State.Owned}
use Rattle.machine.specs.declared.Request.TheVariants.{Alloc, AllocContiguous}
use Rattle.machine.specs.declared.Reason.{Reason}
use Rattle.machine.specs.declared.Reason.TheVariants.{NoMachine, NotPresent, NoRoom, NoFrames}
use Rattle.machine.specs.declared.Answer.{Answer}
use Rattle.machine.specs.State.{Plan, State, Outcome, address_of, taken}
use Rattle.machine.specs.Step.{machine_of, fits, step}
use Rattle.machine.specs.Run.{Event, run}
use Rattle.machine.specs.Good.{Good}
use Rattle.machine.proofs.Frames.{run_free, run_aligned}
use Rattle.machine.proofs.Keeps.{run_good}

-- After every sequence of requests and writes, every free frame is all 0.
pub clean : (p : Plan) (s : State) → Good p s → (xs : List Event) (j : ℕ) → (run p s xs).frame (j / 512) ≡ Free → (run p s xs).word j ≡ 0
clean p s g xs = (run_good p s xs g).cleared

-- the n frames from the address x on were free, are machine m's now, and are all 0
pub record HandedOut (p : Plan) (s : State) (m n a x : ℕ) (s' : State) : Type 0 where
  pub first : ℕ
  pub place : x ≡ address_of p first
  pub aligned : first % 2 ^ a ≡ 0
  pub free : (k : ℕ) → first ≤ k → k < first + n → s.frame k ≡ Free
  pub mine : (k : ℕ) → first ≤ k → k < first + n → s'.frame k ≡ Owned m
  pub clear : (j : ℕ) → first ≤ j / 512 → j / 512 < first + n → s'.word j ≡ 0

is_address : Answer → Bool
is_address Answer.Done = false
is_address (Answer.Address a) = true
is_address (Answer.No why) = false
is_address Answer.Corrupt = false

address_in : Answer → ℕ
address_in Answer.Done = 0
address_in (Answer.Address a) = a
address_in (Answer.No why) = 0
address_in Answer.Corrupt = 0

-- a refusal is no address
denied : (why : Reason) (x : ℕ) → Answer.No why ≡ Answer.Address x → ⊥
unfolding is_address
denied why x e = never (sym (ap is_address e))

same_address : (x y : ℕ) → Answer.Address x ≡ Answer.Address y → x ≡ y
unfolding address_in
same_address x y e = ap address_in e

-- What an allocation answers was free, and is handed out all 0: a run, and one frame, which is a run of one.
pub handed_out_clean : (p : Plan) (s : State) → Good p s → (number n a x : ℕ) → (step p s number (AllocContiguous n a)).answer ≡ Answer.Address x → HandedOut p s (machine_of p.config number) n a x (step p s number (AllocContiguous n a)).state
unfolding step
handed_out_clean p s g number n a x =
    let k = lowest (fits p s n a) p.frames in
    by Ok (ltb m p.config.machines) _ _
    (λ l. by Ok (s.present m) _ _
    (λ h. by Ok (eqb n 0) _ _ (λ e q. absurd (denied NoFrames x q))
    (λ e. by Ok (ltb k p.frames) _ _ (λ f q. handed k (lowest_yes (fits p s n a) p.frames (ltb-true k p.frames f)) (sym (same_address (address_of p k) x q))) (λ f q. absurd (denied NoRoom x q))))
    (λ h q. absurd (denied NotPresent x q)))
    (λ l q. absurd (denied NoMachine x q))
  where
    m : ℕ
    m = machine_of p.config number

    Ok : Outcome → Type 0
    Ok o = o.answer ≡ Answer.Address x → HandedOut p s m n a x o.state

    handed : (k : ℕ) → fits p s n a k ≡ true → x ≡ address_of p k → HandedOut p s m n a x (taken s m k n)
    handed k f e =
        record {
          first = k;
          place = e;
          aligned = run_aligned p s n a k f;
          free = run_free p s n a k f;
          mine = λ j u v. run_cases (λ i y. k ≤ i → i < k + n → y ≡ Owned m) s.frame k n (Owned m) (λ i b c b' c'. refl) (λ i o b c. absurd (o b c)) j u v;
          clear = λ j u v. g.cleared j (run_free p s n a k f (j / 512) u v);
        }

pub handed_out_one : (p : Plan) (s : State) → Good p s → (number x : ℕ) → (step p s number Alloc).answer ≡ Answer.Address x → HandedOut p s (machine_of p.config number) 1 0 x (step p s number Alloc).state
unfolding step
handed_out_one p s g number x = handed_out_clean p s g number 1 0 x
