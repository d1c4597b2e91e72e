-- What holds of sound memories after every sequence of calls, of any machines in any order, and of machines' writes to frames that they
-- own. Assumes nothing.
use mathlib.Core.Path.{◌≡◌, refl, sym, ◌∙◌, ap, subst}
use mathlib.Core.Bool.{true}
use mathlib.Core.List.{List}
use Prim.Native.Nat.{ℕ, ◌+◌, ◌/◌, ◌≤◌, ◌<◌}
use native.Mathlib.Omega.{arith}
use Rattle.owners.specs.States.{State.Free, State.Reserved, State.Owned}
use Rattle.address.specs.declared.Region.{Region}
use Rattle.set_model.specs.Sets.{In}
use Rattle.machine.specs.declared.Which.{Which}
use Rattle.machine.specs.declared.Request.{Request}
use Rattle.machine.specs.declared.Request.TheVariants.{RemoveZoneWhole, Insert, Remove, Alloc, AllocContiguous, Dealloc, DeallocContiguous}
use Rattle.machine.specs.declared.Reason.TheVariants.{NoRoom}
use Rattle.machine.specs.declared.Answer.{Answer}
use Rattle.machine.specs.State.{Plan, State, Outcome, out, address_of}
use Rattle.machine.specs.Step.{machine_of, step}
use Rattle.machine.specs.Lists.{Call, Reply, Result, call}
use Rattle.machine.specs.Run.{Event, run}
use Rattle.machine.specs.Reach.{Way, Reach, SharedBy}
use Rattle.machine.specs.Good.{Good}
use Rattle.machine.specs.Parts.{Alike, Refused}
use Rattle.machine.specs.Conditions.{May}
use Rattle.machine.specs.Own.{FreeAlike, of_pool, calls_pool, only, replies, Quiet}
use Rattle.machine.proofs.Isolation.{isolated_now, monitor_alone, monitor_or_machine, owner_once, Apart, Account, accounted_now, same_reserved}
use Rattle.machine.proofs.Others as others
use Rattle.machine.proofs.Answers as answers
use Rattle.machine.proofs.Answers.{never_corrupt, Exactly, succeeds_exactly}
use Rattle.machine.proofs.Contents.{HandedOut, handed_out_clean, handed_out_one}
use Rattle.machine.proofs.Own as own
use Rattle.machine.proofs.Whole as whole
use Rattle.machine.proofs.Whole.{GivenBack, wholes}
use Rattle.hv_state.specs.Memory.{Mem, config_in, plan_of, decode, Sound}
use Rattle.hv_state.specs.Serving.{Served, CallServed, Undone}
use Rattle.hv_theorems.specs.Happening.{Becomes, Reached, wrote}
use Rattle.hv_theorems.proofs.Writing.{write_plan, write_state, write_sound}

-- The memories stay sound, and mean what the calls and writes make of what they meant.
pub reached : (b : Mem) (xs : List Event) (d : Mem) → Becomes b xs d → Sound b → Reached b xs d
reached b xs d (Becomes.Stays _) s = record { sound = s; plan = refl; state = refl }
reached b xs d (Becomes.Serves _ c _ rest number q a v more) s =
    let r = reached c rest d more (v.sound s) in
    record {
      sound = r.sound;
      plan = r.plan ∙ v.plan s;
      state = r.state ∙ (λ i. run (v.plan s i) (decode c) rest) ∙ sym (ap (λ (o : Result). run (plan_of b) o.state rest) (v.same s));
    }
reached b xs d (Becomes.Writes _ _ rest m j x here owns more) s =
    let r = reached (wrote b j x) rest d more (write_sound b m j x s here owns) in
    record {
      sound = r.sound;
      plan = r.plan ∙ write_plan b m j x s here owns;
      state = r.state ∙ (λ i. run (write_plan b m j x s here owns i) (write_state b m j x s here owns i) rest);
    }

module _ (b : Mem) (xs : List Event) (d : Mem) (s : Sound b) (t : Becomes b xs d) where
  -- Two machines reach a host page only by shared regions that the configuration lets coincide.
  pub isolated : (m m' page : ℕ) (x y : Way) → (m ≡ m' → ⊥) → Reach (plan_of d) (decode d) m page x → Reach (plan_of d) (decode d) m' page y → SharedBy m x m' y
  isolated = isolated_now (plan_of d) (decode d) (reached b xs d t s).sound.good

  -- Every page of the allocator's region is the monitor's or that of one machine, and no machine reaches the monitor's.
  pub monitor_apart : Apart (plan_of d) (decode d)
  monitor_apart =
      let g = (reached b xs d t s).sound.good in
      record { alone = monitor_alone (plan_of d) (decode d) g; one = monitor_or_machine (plan_of d) (decode d) g; once = owner_once (plan_of d) (decode d) g }

  -- Every frame is free, reserved, or owned by one machine, which is there.
  pub accounted : (k : ℕ) → Account (decode d) k
  accounted = accounted_now (plan_of d) (decode d) (reached b xs d t s).sound.good

  -- The reserved frames are those that they were: none is ever lost.
  pub reserved_stay : (k : ℕ) → ((decode b).frame k ≡ Reserved → (decode d).frame k ≡ Reserved) × ((decode d).frame k ≡ Reserved → (decode b).frame k ≡ Reserved)
  reserved_stay k =
      let r = reached b xs d t s in
      let g = subst (λ (p : Plan). Good p (decode d)) r.plan r.sound.good in
      (same_reserved (plan_of b) k (decode b) s.good (decode d) g, same_reserved (plan_of b) k (decode d) g (decode b) s.good)

  -- Every free frame is all 0.
  pub clean : (j : ℕ) → (decode d).frame (j / 512) ≡ Free → (decode d).word j ≡ 0
  clean = (reached b xs d t s).sound.good.cleared

-- Of one request, of sound memories:
module _ (b d : Mem) (number : ℕ) (q : Request) (a : Answer) (s : Sound b) (v : Served b number q d a) where
  -- Every other machine's presence, sets, frames and their contents are as they were.
  pub others_unchanged : (m : ℕ) → (m ≡ machine_of (config_in b) number → ⊥) → Alike m (decode d) (decode b)
  others_unchanged m n = subst (λ (o : Outcome). Alike m o.state (decode b)) (v.same s) (others.others_unchanged (plan_of b) (decode b) number q m n)

  -- A refusal changes nothing at all: no word and no byte of any memory.
  pub refused_nothing : Refused a → d ≡ b
  refused_nothing r = v.kept r

  -- "Corrupt" is not answered.
  pub not_corrupt : a ≡ Answer.Corrupt → ⊥
  not_corrupt e = never_corrupt (plan_of b) (decode b) number q (ap (λ (o : Outcome). o.answer) (v.same s) ∙ e)

  -- It succeeds exactly if the asker is configured and the request's conditions hold.
  pub exactly : Exactly (out a (decode d)) ((machine_of (config_in b) number < (config_in b).machines) × May (plan_of b) (decode b) (machine_of (config_in b) number) q)
  exactly = subst (λ (o : Outcome). Exactly o ((machine_of (config_in b) number < (config_in b).machines) × May (plan_of b) (decode b) (machine_of (config_in b) number) q)) (v.same s) (succeeds_exactly (plan_of b) (decode b) s.good number q)

-- Of one call, one request or a list, of sound memories:
module _ (b d : Mem) (number : ℕ) (c : Call) (r : Reply) (s : Sound b) (v : CallServed b number c d r) where
  -- Every other machine's presence, sets, frames and their contents are as they were.
  pub calls_unchanged : (m : ℕ) → (m ≡ machine_of (config_in b) number → ⊥) → Alike m (decode d) (decode b)
  calls_unchanged m n = subst (λ (o : Result). Alike m o.state (decode b)) (v.same s) (others.calls_unchanged (plan_of b) (decode b) number c m n)

  -- What is not done changes nothing at all: no word and no byte of any memory.
  pub undone_nothing : Undone r → d ≡ b
  undone_nothing u = v.kept u

-- What is handed out was free, is the asker's now, and is all 0: a run, and one frame, which is a run of one.
pub run_handed_out : (b d : Mem) (number n a x : ℕ) → Sound b → Served b number (AllocContiguous n a) d (Answer.Address x) → HandedOut (plan_of b) (decode b) (machine_of (config_in b) number) n a x (decode d)
run_handed_out b d number n a x s v =
    subst (λ (o : Outcome). HandedOut (plan_of b) (decode b) (machine_of (config_in b) number) n a x o.state) (v.same s) (handed_out_clean (plan_of b) (decode b) s.good number n a x (ap (λ (o : Outcome). o.answer) (v.same s)))

pub frame_handed_out : (b d : Mem) (number x : ℕ) → Sound b → Served b number Alloc d (Answer.Address x) → HandedOut (plan_of b) (decode b) (machine_of (config_in b) number) 1 0 x (decode d)
frame_handed_out b d number x s v =
    subst (λ (o : Outcome). HandedOut (plan_of b) (decode b) (machine_of (config_in b) number) 1 0 x o.state) (v.same s) (handed_out_one (plan_of b) (decode b) s.good number x (ap (λ (o : Outcome). o.answer) (v.same s)))

-- "No room" is never answered to an insertion.
pub never_full : (b d : Mem) (number : ℕ) (w : Which) (r : Region) → Sound b → Served b number (Insert w r) d (Answer.No NoRoom) → ⊥
never_full b d number w r s v = answers.never_full (plan_of b) (decode b) s.good number w r (ap (λ (o : Outcome). o.answer) (v.same s))

-- The answer to a machine, and its part afterwards, depend on the plan, its part, and for requests of the pool on which frames are free: of
-- two memories that agree on these, the answers agree, and the parts afterwards.
pub answers_own : (b b' d d' : Mem) (number : ℕ) (q : Request) (a a' : Answer) → Sound b → Sound b' → plan_of b' ≡ plan_of b → Alike (machine_of (config_in b) number) (decode b) (decode b') → (of_pool q ≡ true → FreeAlike (decode b) (decode b')) → Served b number q d a → Served b' number q d' a' → (a ≡ a') × Alike (machine_of (config_in b) number) (decode d) (decode d')
answers_own b b' d d' number q a a' s s' e h f v v' =
    let o = own.answers_own (plan_of b) number (decode b) (decode b') s.good (subst (λ (p : Plan). Good p (decode b')) e s'.good) h q f in
    let x = v.same s in
    let y = sym (λ i. step (e i) (decode b') number q) ∙ v'.same s' in
    (sym (ap (λ (z : Outcome). z.answer) x) ∙ o.answer ∙ ap (λ (z : Outcome). z.answer) y, subst (λ (z : State). Alike (machine_of (config_in b) number) z (decode d')) (ap (λ (z : Outcome). z.state) x) (subst (λ (z : State). Alike (machine_of (config_in b) number) (step (plan_of b) (decode b) number q).state z) (ap (λ (z : Outcome). z.state) y) o.part))

-- The same of a call: one request, or a list of them.
pub replies_own : (b b' d d' : Mem) (number : ℕ) (c : Call) (r r' : Reply) → Sound b → Sound b' → plan_of b' ≡ plan_of b → Alike (machine_of (config_in b) number) (decode b) (decode b') → (calls_pool c ≡ true → FreeAlike (decode b) (decode b')) → CallServed b number c d r → CallServed b' number c d' r' → (r ≡ r') × Alike (machine_of (config_in b) number) (decode d) (decode d')
replies_own b b' d d' number c r r' s s' e h f v v' =
    let o = own.replies_own (plan_of b) number (decode b) (decode b') s.good (subst (λ (p : Plan). Good p (decode b')) e s'.good) h c f in
    let x = v.same s in
    let y = sym (λ i. call (e i) (decode b') number c) ∙ v'.same s' in
    (sym (ap (λ (z : Result). z.reply) x) ∙ o.reply ∙ ap (λ (z : Result). z.reply) y, subst (λ (z : State). Alike (machine_of (config_in b) number) z (decode d')) (ap (λ (z : Result). z.state) x) (subst (λ (z : State). Alike (machine_of (config_in b) number) (call (plan_of b) (decode b) number c).state z) (ap (λ (z : Result). z.state) y) o.part))

-- For a machine that asks nothing of the pool, its replies in any run from what the memories mean are those in the run with all other
-- machines' events deleted.
pub purge : (b : Mem) → Sound b → (m : ℕ) (xs : List Event) → Quiet (plan_of b) m xs → replies (plan_of b) m (decode b) xs ≡ replies (plan_of b) m (decode b) (only (plan_of b) m xs)
purge b s m xs q = own.purge (plan_of b) m (decode b) xs s.good q

-- Removing every machine whole gives the start's presence, sets and frames, every free frame all 0: nothing is ever lost.
pub given_back : (b : Mem) → Sound b → GivenBack (plan_of b) (run (plan_of b) (decode b) (wholes (plan_of b) (config_in b).machines))
given_back b s = whole.given_back (plan_of b) (decode b) s.good

-- No machine that is there is ever stuck: its giving back of frames that it owns, its removal of a region that is in a set, and its own
-- removal whole are never refused.
pub record NeverStuck (b : Mem) (number : ℕ) : Type 0 where
  pub gives : (k n : ℕ) → 0 < n → ((j : ℕ) → k ≤ j → j < k + n → (decode b).frame j ≡ Owned (machine_of (config_in b) number)) → (step (plan_of b) (decode b) number (DeallocContiguous (address_of (plan_of b) k) n)).answer ≡ Answer.Done
  pub gives_one : (k : ℕ) → (decode b).frame k ≡ Owned (machine_of (config_in b) number) → (step (plan_of b) (decode b) number (Dealloc (address_of (plan_of b) k))).answer ≡ Answer.Done
  pub leaves : (w : Which) (r : Region) → In r ((decode b).set (machine_of (config_in b) number) w) → (step (plan_of b) (decode b) number (Remove w r)).answer ≡ Answer.Done
  pub goes : (step (plan_of b) (decode b) number RemoveZoneWhole).answer ≡ Answer.Done

pub never_stuck : (b : Mem) → Sound b → (number : ℕ) → machine_of (config_in b) number < (config_in b).machines → (decode b).present (machine_of (config_in b) number) ≡ true → NeverStuck b number
unfolding step
never_stuck b s number l h =
    record {
      gives = whole.gives_own (plan_of b) (decode b) s.good number l h;
      gives_one = λ k e. whole.gives_own (plan_of b) (decode b) s.good number l h k 1 (omega arith) (λ j x y. let q : j ≡ k = omega arith in rw q e);
      leaves = whole.leaves_own (plan_of b) (decode b) s.good number l h;
      goes = whole.goes_whole (plan_of b) (decode b) s.good number l h;
    }
