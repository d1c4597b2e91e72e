-- An example of every answer to a call in bytes. Assumes nothing.
use mathlib.Core.Path.{◌≡◌, refl, sym, ap, subst}
use mathlib.Core.List.{List, [], ◌∷◌}
use Prim.Native.Nat.{ℕ}
use native.Mathlib.Omega.{arith}
use lib.Dec.{lit<, lit≤}
use Rattle.base.proofs.Ranges.{only_none}
use Rattle.base.proofs.Choices.{never}
use Rattle.machine.specs.declared.Request.{Request}
use Rattle.machine.specs.declared.Request.TheVariants.{AddZone}
use Rattle.machine.specs.declared.Reason.{Reason}
use Rattle.machine.specs.declared.Answer.{Answer}
use Rattle.machine.specs.State.{Outcome}
use Rattle.machine.specs.Step.{step}
use Rattle.machine.specs.Lists.{Call.All, Reply}
use Rattle.request_bytes.specs.Requests.{request_at, Means}
use Rattle.call_bytes.specs.Calls.{is_list, WellFormed, Several}
use Rattle.hv_state.specs.Memory.{Mem, plan_of, decode, Sound}
use Rattle.hv_state.specs.Serving.{Served, CallServed, mem}
use Rattle.hv_state.proofs.Serving.{one_served}
use Rattle.list_attempt.specs.Attempting.{Told}
use Rattle.hv_calls.specs.declared.Replied.{Replied}
use Rattle.hv_calls.specs.Calling.{SpareFits}
use Rattle.std.specs.Prelude.{Ok, Err}
use Rattle.hv_serve.specs.declared.NotServed.{NotServed}
use Rattle.hv_serve.specs.Called.{CalledSays}
use Rattle.machine_examples.proofs.HvZones.{add_zone_done}
use Rattle.machine_examples.proofs.HvFrames.{idle}
use Rattle.machine_examples.proofs.HvRequest.{started}
use Rattle.bitmap_examples.proofs.Trees.{one}
use Rattle.allocator_examples.proofs.Memories.{nobody}
use Rattle.frames_examples.proofs.Words.{zeros}
use Rattle.call_examples.proofs.Bytes.{alone, listed, reads_alone, reads_listed, no_list, is_list_lem}
use Rattle.call_examples.proofs.Lists.{one_done, one_stopped, one_corrupt, stopped_right}

-- two words for the answer to a member
abbrev buffer : List ℕ
buffer = 0 ∷ 0 ∷ []

-- spare memory that is as long as what it is to hold
pub fits : (b : Mem) → SpareFits b.zones b.tree b.owners b.zones b.tree b.owners
fits b = record { zones = refl; tree = refl; owners = refl }

-- ---- one request

-- every answer to a request is one to the call that is this request
pub serve_answered_each : (b : Mem) (number : ℕ) (q : Request) (b' : Mem) (a : Answer) → Served b number q b' a
    → CalledSays (alone q) buffer b.zones b.tree b.owners b number b' buffer (Ok (Replied.Answered a))
serve_answered_each b number q b' a v =
    let is = reads_alone q in
    let right : WellFormed (alone q) 0 = subst (Means (alone q) 0) is.0 is.1 in (
      lit≤ tt,
      fits b,
      (
        record { alone = no_list q; exact = refl; right = right },
        one_served b number (request_at (alone q) 0) b' a (subst (λ (x : Request). Served b number x b' a) is.0 v),
      ),
      only_none buffer 0 0,
    )

-- ---- lists

-- the bytes are a list of one request
one_member : (q : Request) → Several (listed q) 0 34 1
one_member q =
    let is = reads_listed q in
    record { list = is_list_lem q; exact = refl; right = λ i l. let e : i ≡ 0 = omega arith in rw e (subst (Means (listed q) 1) is.0 is.1) }

-- it is stopped
stopped : (b : Mem) (number : ℕ) (q : Request) (a : Answer) → CallServed b number (All (q ∷ [])) b (Reply.Stopped 0 a)
    → CalledSays (listed q) buffer b.zones b.tree b.owners b number b buffer (Ok (Replied.Stopped 0 a))
stopped b number q a v =
    (lit≤ tt, fits b, (one_member q, subst (λ (x : Request). CallServed b number (All (x ∷ [])) b (Reply.Stopped 0 a)) (reads_listed q).0 v), only_none buffer 0 2)

-- for every reason for which the request is refused
pub serve_stopped_no_each : (b : Mem) (number : ℕ) (q : Request) (why : Reason) → Served b number q b (Answer.No why)
    → CalledSays (listed q) buffer b.zones b.tree b.owners b number b buffer (Ok (Replied.Stopped 0 (Answer.No why)))
serve_stopped_no_each b number q why v = stopped b number q (Answer.No why) (one_stopped b number q why v)

-- a list that adds a machine
abbrev adding : List ℕ
adding = listed AddZone

-- no memories
abbrev nothing : Mem
nothing = mem [] [] [] [] []

pub serve_stopped_corrupt : CalledSays adding buffer [] [] [] nothing 7 nothing buffer (Ok (Replied.Stopped 0 Answer.Corrupt))
serve_stopped_corrupt = stopped nothing 7 AddZone Answer.Corrupt (one_corrupt nothing 7 AddZone (λ s. let e = s.table.table.long in omega (arith, e)))

pub serve_stopped_done_never : (s buffer' z t o : List ℕ) (b : Mem) (number : ℕ) (b' : Mem) (answers : List ℕ) (i : ℕ) → Sound b
    → CalledSays s buffer' z t o b number b' answers (Ok (Replied.Stopped i Answer.Done)) → ⊥
serve_stopped_done_never s buffer' z t o b number b' answers i k x = never (stopped_right b number _ b' (Reply.Stopped i Answer.Done) k x.2.1)

pub serve_stopped_address_never : (s buffer' z t o : List ℕ) (b : Mem) (number : ℕ) (b' : Mem) (answers : List ℕ) (i h : ℕ) → Sound b
    → CalledSays s buffer' z t o b number b' answers (Ok (Replied.Stopped i (Answer.Address h))) → ⊥
serve_stopped_address_never s buffer' z t o b number b' answers i h k x = never (stopped_right b number _ b' (Reply.Stopped i (Answer.Address h)) k x.2.1)

-- the machine is added, and its answer told
added : Served started 7 (request_at adding 1) idle Answer.Done
added = subst (λ (x : Request). Served started 7 x idle Answer.Done) (reads_listed AddZone).0 (add_zone_done one nobody zeros)

told : Sound started → Told buffer 0 0 (step (plan_of started) (decode started) 7 (request_at adding 1)).answer
told s = subst (Told buffer 0 0) (sym (ap (λ (o : Outcome). o.answer) (added.same s))) (record { code = refl; address = refl })

pub serve_done : CalledSays adding buffer started.zones started.tree started.owners started 7 idle buffer (Ok Replied.Done)
serve_done = (
  lit≤ tt,
  fits started,
  (
    one_member AddZone,
    record { served = one_done started 7 (request_at adding 1) idle added; told = λ s k l. let q : k ≡ 0 = omega arith in rw q (told s) },
  ),
  only_none buffer 0 2,
)

-- ---- bytes that are no call, and memory that is too short

pub serve_malformed : CalledSays [] [] started.zones started.tree started.owners started 7 started [] (Ok (Replied.Malformed 0))
unfolding is_list
serve_malformed = (lit≤ tt, fits started, ((refl, λ e r. omega (arith, e)), refl), only_none [] 0 0)

pub serve_few_words : CalledSays adding [] started.zones started.tree started.owners started 7 started [] (Err NotServed.FewWords)
serve_few_words = (lit< tt, refl, refl)

pub serve_spare : CalledSays adding buffer [] [] [] started 7 started buffer (Err NotServed.Spare)
serve_spare = (lit≤ tt, (λ f. let e = f.zones in omega (arith, e)), refl, refl)
