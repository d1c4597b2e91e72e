-- The check as nine stages, numbered in their order: reading, numbers, valid regions, the allocator's, alone, together, clear, off the
-- allocator's, nothing left over. A reason is a stage that fails behind stages that hold, and four numbers. Assumes nothing.
use mathlib.Core.Path.{◌≡◌, refl, sym, ap, ◌∙◌, subst}
use mathlib.Core.List.{List}
use Prim.Native.Nat.{ℕ, zero, suc, ◌+◌, ◌-◌, ◌≤◌, ◌<◌}
use native.Mathlib.Decide.{dec_lt}
use native.Mathlib.Omega.{arith}
use borrow.Author.Tests.{eq-eqb, ne_eqb}
use lib.ListN.{length}
use lib.Dec.{eqb}
use Rattle.base.specs.Search.{First}
use Rattle.base.specs.Choices.{pick}
use Rattle.base.proofs.Search.{none_first, first_row_once, first_once}
use Rattle.address.specs.declared.Fault.{Fault}
use Rattle.std.specs.Prelude.{Ok, Err}
use Rattle.address.specs.Regions.{ValiditySays}
use Rattle.address.proofs.Laws.{faulty}
use Rattle.address.proofs.Theorems.{fault_once}
use Rattle.config_model.specs.Config.{Config}
use Rattle.config_model.specs.Rules.{Rules, Differ, IsValid, OffPool}
use Rattle.config_bytes.specs.Fields.{config_of, tail, Readable}
use Rattle.config_bytes.specs.Reading.{Read, read_of}
use Rattle.config_bytes.specs.declared.Misread.{Misread}
use Rattle.config_bytes.proofs.Laws.{readable_whole}
use Rattle.config_pairs.specs.Pairs.{FirstClash}
use Rattle.config_pairs.specs.declared.Rule.{Rule}
use Rattle.config_rules.specs.Judging.{ToNumbers, ToValid, ToPoolValid, ToAlone, ToTogether, ToClear}
use Rattle.config_rules.specs.declared.Reason.{Reason}
use Rattle.config.specs.Checking.{RefusedSays, reason_of}

-- ---- faults as numbers

unfoldable fault_number : Fault → ℕ
fault_number Fault.NoPage = 0
fault_number Fault.GuestStart = 1
fault_number Fault.HostStart = 2
fault_number Fault.GuestEnd = 3
fault_number Fault.HostEnd = 4

unfoldable pub fault_of : ℕ → Fault
fault_of zero = Fault.NoPage
fault_of (suc zero) = Fault.GuestStart
fault_of (suc (suc zero)) = Fault.HostStart
fault_of (suc (suc (suc zero))) = Fault.GuestEnd
fault_of (suc (suc (suc (suc n)))) = Fault.HostEnd

fault_back : (f : Fault) → fault_of (fault_number f) ≡ f
unfolding fault_number fault_of
fault_back Fault.NoPage = refl
fault_back Fault.GuestStart = refl
fault_back Fault.HostStart = refl
fault_back Fault.GuestEnd = refl
fault_back Fault.HostEnd = refl

-- ---- stages

-- the stages before stage k hold
abbrev pub To : List ℕ → ℕ → Type 0
To s zero = Unit {0}
To s (suc zero) = Readable s
To s (suc (suc zero)) = Readable s × ToNumbers (config_of s)
To s (suc (suc (suc zero))) = Readable s × ToValid (config_of s)
To s (suc (suc (suc (suc zero)))) = Readable s × ToPoolValid (config_of s)
To s (suc (suc (suc (suc (suc zero))))) = Readable s × ToAlone (config_of s)
To s (suc (suc (suc (suc (suc (suc zero)))))) = Readable s × ToTogether (config_of s)
To s (suc (suc (suc (suc (suc (suc (suc zero))))))) = Readable s × ToClear (config_of s)
To s (suc (suc (suc (suc (suc (suc (suc (suc zero)))))))) = Readable s × Rules (config_of s)
To s (suc (suc (suc (suc (suc (suc (suc (suc (suc n))))))))) = Readable s × Rules (config_of s) × (length s ≡ tail s + 16)

to_clear_lem : (c : Config) → Rules c → ToClear c
to_clear_lem c r = (((((r.numbers, r.valid), r.pool_valid), r.alone), r.together), r.clear)

down : (s : List ℕ) (k : ℕ) → To s (suc k) → To s k
down s zero x = tt
down s (suc zero) x = x.0
down s (suc (suc zero)) x = (x.0, x.1.0)
down s (suc (suc (suc zero))) x = (x.0, x.1.0)
down s (suc (suc (suc (suc zero)))) x = (x.0, x.1.0)
down s (suc (suc (suc (suc (suc zero))))) x = (x.0, x.1.0)
down s (suc (suc (suc (suc (suc (suc zero)))))) x = (x.0, x.1.0)
down s (suc (suc (suc (suc (suc (suc (suc zero))))))) x = (x.0, to_clear_lem (config_of s) x.1)
down s (suc (suc (suc (suc (suc (suc (suc (suc zero)))))))) x = (x.0, x.1)
down s (suc (suc (suc (suc (suc (suc (suc (suc (suc n))))))))) x = x

down_by : (s : List ℕ) (d k : ℕ) → To s (d + k) → To s k
down_by s zero k x = let e : 0 + k ≡ k = omega arith in rw e at x
down_by s (suc d) k x = let e : suc d + k ≡ suc (d + k) = omega arith in down_by s d k (down s (d + k) (rw e at x))

pub down_to : (s : List ℕ) (j k : ℕ) → j ≤ k → To s k → To s j
down_to s j k l x = let e : k ≡ (k - j) + j = omega arith in down_by s (k - j) j (rw e at x)

-- what is wrong with a field, from its number and two more
unfoldable pub read_from : ℕ → ℕ → ℕ → Misread
read_from zero a b = Misread.TooShort a
read_from (suc zero) a b = Misread.TooManyMachines
read_from (suc (suc zero)) a b = Misread.TooManyRegions a
read_from (suc (suc (suc n))) a b = Misread.UnknownKind a b

-- the reason of a stage and four numbers
unfoldable pub reason_from : ℕ → ℕ → ℕ → ℕ → ℕ → Reason
reason_from zero a b d e = reason_of (read_from a b d)
reason_from (suc zero) a b d e = Reason.SameNumber a b
reason_from (suc (suc zero)) a b d e = Reason.NotValid a b (fault_of d)
reason_from (suc (suc (suc zero))) a b d e = Reason.PoolNotValid (fault_of a)
reason_from (suc (suc (suc (suc zero)))) a b d e = Reason.HostShared a b d e
reason_from (suc (suc (suc (suc (suc zero))))) a b d e = pick (eqb a d) (Reason.OneMachine a b e) (Reason.NotCoinciding a b d e)
reason_from (suc (suc (suc (suc (suc (suc zero)))))) a b d e = Reason.GuestShared a b e
reason_from (suc (suc (suc (suc (suc (suc (suc zero))))))) a b d e = Reason.PoolShared a b
reason_from (suc (suc (suc (suc (suc (suc (suc (suc n)))))))) a b d e = Reason.LeftOver a

-- a stage fails, at the place that the numbers tell
abbrev pub Fails : List ℕ → ℕ → ℕ → ℕ → ℕ → ℕ → Type 0
Fails s zero a b d e = read_of s ≡ Err (read_from a b d)
Fails s (suc zero) a b d e = First (Differ (config_of s)) (λ k. (config_of s).machines) (config_of s).machines a b
Fails s (suc (suc zero)) a b d e =
    First (IsValid (config_of s)) (config_of s).count (config_of s).machines a b
    × ValiditySays ((config_of s).region a b).guest ((config_of s).region a b).host ((config_of s).region a b).pages (Err (fault_of d))
Fails s (suc (suc (suc zero))) a b d e = ValiditySays 0 (config_of s).pool.host (config_of s).pool.pages (Err (fault_of a))
Fails s (suc (suc (suc (suc zero)))) a b d e = FirstClash Rule.Alone (config_of s) a b d e
Fails s (suc (suc (suc (suc (suc zero))))) a b d e = FirstClash Rule.Together (config_of s) a b d e
Fails s (suc (suc (suc (suc (suc (suc zero)))))) a b d e = FirstClash Rule.Clear (config_of s) a b d e
Fails s (suc (suc (suc (suc (suc (suc (suc zero))))))) a b d e = First (OffPool (config_of s)) (config_of s).count (config_of s).machines a b
Fails s (suc (suc (suc (suc (suc (suc (suc (suc n)))))))) a b d e = (a ≡ tail s + 16) × (a < length s)

-- a reason is a stage that fails behind stages that hold
pub record Staged (s : List ℕ) (r : Reason) : Type 0 where
  pub stage : ℕ
  pub last : stage ≤ 8
  pub a : ℕ
  pub b : ℕ
  pub d : ℕ
  pub e : ℕ
  pub holds : To s stage
  pub fails : Fails s stage a b d e
  pub is : reason_from stage a b d e ≡ r

pub staged : (s : List ℕ) (r : Reason) → RefusedSays s r → Staged s r
unfolding reason_from read_from fault_number fault_of
staged s (Reason.TooShort at) x = record { stage = 0; last = omega arith; a = 0; b = at; d = 0; e = 0; holds = tt; fails = x; is = refl }
staged s Reason.TooManyMachines x = record { stage = 0; last = omega arith; a = 1; b = 0; d = 0; e = 0; holds = tt; fails = x; is = refl }
staged s (Reason.TooManyRegions m) x = record { stage = 0; last = omega arith; a = 2; b = m; d = 0; e = 0; holds = tt; fails = x; is = refl }
staged s (Reason.UnknownKind m i) x = record { stage = 0; last = omega arith; a = 3; b = m; d = i; e = 0; holds = tt; fails = x; is = refl }
staged s (Reason.SameNumber m m') x = record { stage = 1; last = omega arith; a = m; b = m'; d = 0; e = 0; holds = x.0; fails = x.1; is = refl }
staged s (Reason.NotValid m i f) x =
    record {
      stage = 2;
      last = omega arith;
      a = m;
      b = i;
      d = fault_number f;
      e = 0;
      holds = (x.0, x.1.0);
      fails = (x.1.1, subst (λ (y : Fault). ValiditySays ((config_of s).region m i).guest ((config_of s).region m i).host ((config_of s).region m i).pages (Err y)) (sym (fault_back f)) x.1.2);
      is = ap (λ (y : Fault). Reason.NotValid m i y) (fault_back f);
    }
staged s (Reason.PoolNotValid f) x =
    record {
      stage = 3;
      last = omega arith;
      a = fault_number f;
      b = 0;
      d = 0;
      e = 0;
      holds = (x.0, x.1.0);
      fails = subst (λ (y : Fault). ValiditySays 0 (config_of s).pool.host (config_of s).pool.pages (Err y)) (sym (fault_back f)) x.1.1;
      is = ap Reason.PoolNotValid (fault_back f);
    }
staged s (Reason.HostShared m i m' i') x = record { stage = 4; last = omega arith; a = m; b = i; d = m'; e = i'; holds = (x.0, x.1.0); fails = x.1.1; is = refl }
staged s (Reason.NotCoinciding m i m' i') x =
    record { stage = 5; last = omega arith; a = m; b = i; d = m'; e = i'; holds = (x.0, x.1.0); fails = x.1.1; is = simp (ne_eqb m m' x.1.2) }
staged s (Reason.OneMachine m i i') x = record { stage = 5; last = omega arith; a = m; b = i; d = m; e = i'; holds = (x.0, x.1.0); fails = x.1.1; is = simp (eq-eqb m m refl) }
staged s (Reason.GuestShared m i i') x = record { stage = 6; last = omega arith; a = m; b = i; d = m; e = i'; holds = (x.0, x.1.0); fails = x.1.1; is = refl }
staged s (Reason.PoolShared m i) x = record { stage = 7; last = omega arith; a = m; b = i; d = 0; e = 0; holds = (x.0, x.1.0); fails = x.1.1; is = refl }
staged s (Reason.LeftOver at) x = record { stage = 8; last = omega arith; a = at; b = 0; d = 0; e = 0; holds = (x.readable, x.rules); fails = (x.end, x.more); is = refl }

-- a stage that fails does not hold
whole_not : (e : Misread) → ◌≡◌ {A = Read} (Ok tt) (Err e) → ⊥
whole_not e q = cc

pub fails_not : (s : List ℕ) (k a b d e : ℕ) → k ≤ 8 → Fails s k a b d e → To s (suc k) → ⊥
fails_not s zero a b d e l x y = whole_not (read_from a b d) (sym (readable_whole s y) ∙ x)
fails_not s (suc zero) a b d e l x y = none_first x y.1
fails_not s (suc (suc zero)) a b d e l x y = none_first x.0 y.1.1
fails_not s (suc (suc (suc zero))) a b d e l x y = faulty _ x y.1.1
fails_not s (suc (suc (suc (suc zero)))) a b d e l x y = none_first x.first y.1.1
fails_not s (suc (suc (suc (suc (suc zero))))) a b d e l x y = none_first x.first y.1.1
fails_not s (suc (suc (suc (suc (suc (suc zero)))))) a b d e l x y = none_first x.first y.1.1
fails_not s (suc (suc (suc (suc (suc (suc (suc zero))))))) a b d e l x y = none_first x y.1.off_pool
fails_not s (suc (suc (suc (suc (suc (suc (suc (suc n)))))))) a b d e l x y = let z = y.2 in let u = x.0 in let v = x.1 in omega arith

-- ---- at one stage there is one place

clash_once : (rule : Rule) (c : Config) (a b d e a' b' d' e' : ℕ) → FirstClash rule c a b d e → FirstClash rule c a' b' d' e' → (a ≡ a') × (b ≡ b') × (d ≡ d') × (e ≡ e')
clash_once rule c a b d e a' b' d' e' x y =
    let p = first_row_once x.first y.first in
    let q = first_once x.first y.first in
    let z : FirstClash rule c a b d' e' = rw (p, q) y in
    (p, q, first_row_once x.other z.other, first_once x.other z.other)

-- the same four numbers are the same reason
pub same_four : (k : ℕ) {a b d e a' b' d' e' : ℕ} → (a ≡ a') × (b ≡ b') × (d ≡ d') × (e ≡ e') → reason_from k a b d e ≡ reason_from k a' b' d' e'
same_four k q = let p = q.0 in let r = q.1 in let t = q.2 in let u = q.3 in cc

valid_once : (s : List ℕ) (a b d e a' b' d' e' : ℕ) → Fails s 2 a b d e → Fails s 2 a' b' d' e' → Reason.NotValid a b (fault_of d) ≡ Reason.NotValid a' b' (fault_of d')
valid_once s a b d e a' b' d' e' x y =
    let p = first_row_once x.0 y.0 in
    let q = first_once x.0 y.0 in
    let z : ValiditySays ((config_of s).region a b).guest ((config_of s).region a b).host ((config_of s).region a b).pages (Err (fault_of d')) = rw (p, q) y.1 in
    let r = fault_once _ _ _ (Err (fault_of d)) (Err (fault_of d')) x.1 z in cc

once : (s : List ℕ) (k a b d e a' b' d' e' : ℕ) → Fails s k a b d e → Fails s k a' b' d' e' → reason_from k a b d e ≡ reason_from k a' b' d' e'
unfolding reason_from
once s zero a b d e a' b' d' e' x y = let z : ◌≡◌ {A = Read} (Err (read_from a b d)) (Err (read_from a' b' d')) = sym x ∙ y in let p : read_from a b d ≡ read_from a' b' d' = cc in ap reason_of p
once s (suc zero) a b d e a' b' d' e' x y = let p = first_row_once x y in let q = first_once x y in cc
once s (suc (suc zero)) a b d e a' b' d' e' x y = valid_once s a b d e a' b' d' e' x y
once s (suc (suc (suc zero))) a b d e a' b' d' e' x y = let r = fault_once 0 (config_of s).pool.host (config_of s).pool.pages (Err (fault_of a)) (Err (fault_of a')) x y in cc
once s (suc (suc (suc (suc zero)))) a b d e a' b' d' e' x y = same_four 4 (clash_once Rule.Alone (config_of s) a b d e a' b' d' e' x y)
once s (suc (suc (suc (suc (suc zero))))) a b d e a' b' d' e' x y = same_four 5 (clash_once Rule.Together (config_of s) a b d e a' b' d' e' x y)
once s (suc (suc (suc (suc (suc (suc zero)))))) a b d e a' b' d' e' x y = same_four 6 (clash_once Rule.Clear (config_of s) a b d e a' b' d' e' x y)
once s (suc (suc (suc (suc (suc (suc (suc zero))))))) a b d e a' b' d' e' x y = let p = first_row_once x y in let q = first_once x y in cc
once s (suc (suc (suc (suc (suc (suc (suc (suc n)))))))) a b d e a' b' d' e' x y = ap Reason.LeftOver (x.0 ∙ sym y.0)

-- two reasons for one refusal are one
not_sooner : {s : List ℕ} {r r' : Reason} (x : Staged s r) (y : Staged s r') → x.stage < y.stage → ⊥
not_sooner {s} x y l = fails_not s x.stage x.a x.b x.d x.e x.last x.fails (down_to s (suc x.stage) y.stage (omega arith) y.holds)

pub reason_once : {s : List ℕ} {r r' : Reason} → Staged s r → Staged s r' → r ≡ r'
reason_once {s} {r} {r'} x y = go (dec_lt x.stage y.stage) (dec_lt y.stage x.stage)
  where
    go : Dec (x.stage < y.stage) → Dec (y.stage < x.stage) → r ≡ r'
    go (yes l) w = absurd (not_sooner x y l)
    go (no g) (yes l) = absurd (not_sooner y x l)
    go (no g) (no h) =
        let e : y.stage ≡ x.stage = omega arith in
        let f : Fails s x.stage y.a y.b y.d y.e = subst (λ (k : ℕ). Fails s k y.a y.b y.d y.e) e y.fails in
        let i : reason_from x.stage y.a y.b y.d y.e ≡ r' = subst (λ (k : ℕ). reason_from k y.a y.b y.d y.e ≡ r') e y.is in
        sym x.is ∙ (once s x.stage x.a x.b x.d x.e y.a y.b y.d y.e x.fails f ∙ i)
