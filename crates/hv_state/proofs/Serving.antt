-- When a request is served. Assumes nothing.
use mathlib.Core.Path.{◌≡◌, refl, sym, ap, subst}
use mathlib.Core.List.{List}
use Prim.Native.Nat.{ℕ}
use Rattle.config_view.specs.Table.{table_config}
use Rattle.config.specs.Tables.{Writable}
use Rattle.contents.specs.Contents.{Clean}
use Rattle.machine.specs.declared.Request.{Request}
use Rattle.machine.specs.declared.Answer.{Answer}
use Rattle.machine.specs.State.{Plan, Outcome, out}
use Rattle.machine.specs.Step.{step}
use Rattle.machine.specs.Lists.{Call.One, Reply.Answered}
use Rattle.machine.specs.Good.{Good}
use Rattle.machine.specs.Parts.{Refused}
use Rattle.machine.proofs.Keeps.{step_good}
use Rattle.hv_state.specs.Memory.{Mem, config_in, base_in, plan_of, decode, ZonesOk, Sound}
use Rattle.hv_state.specs.Serving.{Served, CallServed}

-- a refusal that leaves the memories, and is the step's
pub refuses : (b : Mem) (number : ℕ) (q : Request) (a : Answer) → (Sound b → step (plan_of b) (decode b) number q ≡ out a (decode b)) → Served b number q b a
refuses b number q a s = record { kept = λ r. refl; same = s; sound = λ h. h; plan = λ h. refl }

-- memories that are not sound
pub unsound : (b : Mem) (number : ℕ) (q : Request) (a : Answer) → (Sound b → ⊥) → Served b number q b a
unsound b number q a n = refuses b number q a (λ h. absurd (n h))

-- a success: the configuration and the plan stay, the memories stay in order, and they mean what the step says
pub succeeds : (b : Mem) (number : ℕ) (q : Request) (b' : Mem) (a : Answer) → (Refused a → ⊥) → b'.table ≡ b.table
    → (Sound b → plan_of b' ≡ plan_of b)
    → (Sound b → ZonesOk b'.zones (config_in b).machines)
    → (Sound b → Clean (base_in b) b'.tree b'.owners b'.words)
    → (Sound b → step (plan_of b) (decode b) number q ≡ out a (decode b'))
    → Served b number q b' a
succeeds b number q b' a n t p z c s =
    record {
      kept = λ r. absurd (n r);
      same = s;
      sound = λ h. record {
        table = subst (λ (x : List ℕ). Writable x) (sym t) h.table;
        zones = subst (λ (x : List ℕ). ZonesOk b'.zones (table_config x).machines) (sym t) (z h);
        frames = subst (λ (x : List ℕ). Clean (table_config x).pool.host b'.tree b'.owners b'.words) (sym t) (c h);
        good = subst (λ (x : Plan). Good x (decode b')) (sym (p h)) (subst (λ (o : Outcome). Good (plan_of b) o.state) (s h) (step_good (plan_of b) (decode b) number q h.good));
      };
      plan = p;
    }

-- a request that is served is a call that is
pub one_served : (b : Mem) (number : ℕ) (q : Request) (b' : Mem) (a : Answer) → Served b number q b' a → CallServed b number (One q) b' (Answered a)
one_served b number q b' a v = record { kept = v.kept; same = λ s. ap (λ (o : Outcome). record { reply = Answered o.answer; state = o.state }) (v.same s); sound = v.sound; plan = v.plan }
