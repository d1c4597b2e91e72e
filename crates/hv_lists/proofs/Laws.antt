-- A list is served that was attempted without contents: where all went through, once what was freed is cleared; and where one was refused, once
-- everything is as it was. Assumes nothing.
use mathlib.Core.Path.{◌≡◌, refl, sym, ◌∙◌, ap, subst}
use mathlib.Core.Bool.{true, false}
use mathlib.Core.List.{List}
use Prim.Native.Nat.{ℕ, ◌+◌, ◌*◌, ◌/◌, ◌<◌}
use lib.ListN.{length, get_or, replicate, length-replicate}
use native.Mathlib.Omega.{arith}
use Rattle.std.specs.Prelude.{Ok, Err}
use Rattle.base.proofs.Ranges.{zero_word}
use Rattle.set_model.specs.Sets.{table}
use Rattle.config_view.specs.Table.{table_config}
use Rattle.owners.specs.States.{state, Matched}
use Rattle.contents.specs.Contents.{Backed}
use Rattle.machine.specs.declared.Request.{Request}
use Rattle.machine.specs.declared.Answer.{Answer}
use Rattle.machine.specs.declared.Reason.{Reason}
use Rattle.machine.specs.State.{Plan, State, Outcome, address_of}
use Rattle.machine.specs.Step.{machine_of}
use Rattle.machine.specs.Lists.{Call.All, Reply, Tried, is_done, all_or_none, call}
use Rattle.machine.specs.Good.{Good}
use Rattle.machine.proofs.Cases.{of_nobody}
use Rattle.list_model.specs.Carrying.{state_after, answer_to, blank, cleared_by}
use Rattle.list_model.proofs.OneByOne.{after_good, tries_through, tries_halted}
use Rattle.list_model.proofs.Blind.{after_blind, answer_blind}
use Rattle.list_model.proofs.Clearing.{words_after}
use Rattle.hv_state.specs.Memory.{Mem, plan_of, decode, Sound}
use Rattle.hv_state.specs.Serving.{CallServed, mem}
use Rattle.hv_blind.specs.Blind.{Blank}
use Rattle.list_attempt.specs.Attempting.{Told, Went, Halts}
use Rattle.list_asker.specs.declared.Lister.{Lister}
use Rattle.list_asker.specs.Listing.{IsLister}
use Rattle.list_clearing.specs.Clearing.{ClearedAll}
use Rattle.list_attempt.specs.declared.Halted.{Halted}
use Rattle.list_undo.specs.Undoing.{UndoneSays}
use Rattle.hv_lists.specs.Listing.{ListDone}

-- as many words, all 0
zeros : List ℕ → List ℕ
zeros w = replicate (length w) 0

zeros_long : (w : List ℕ) → length (zeros w) ≡ length w
unfolding zeros
zeros_long w = length-replicate (length w) 0

zeros_blank : (w : List ℕ) → Blank (zeros w)
unfolding zeros
zeros_blank w j = zero_word (length w) j

-- ---- the memories with all contents 0

module _ (t z tr o w : List ℕ) where
  plan_blank : plan_of (mem t z tr o (zeros w)) ≡ plan_of (mem t z tr o w)
  plan_blank = λ i. record { config = table_config t; slots = (plan_of (mem t z tr o w)).slots; frames = (plan_of (mem t z tr o w)).frames; usable = zeros_long w i / 512 }

  state_blank : decode (mem t z tr o (zeros w)) ≡ blank (decode (mem t z tr o w))
  state_blank = λ i. record { present = (decode (mem t z tr o w)).present; set = (decode (mem t z tr o w)).set; frame = (decode (mem t z tr o w)).frame; word = λ j. zeros_blank w j i }

  sound_blank : Sound (mem t z tr o w) → Sound (mem t z tr o (zeros w))
  sound_blank s =
      let e = zeros_long w in
      record {
        table = s.table;
        zones = s.zones;
        frames = record {
          accounted = s.frames.accounted;
          backed = record { whole = rw e s.frames.backed.whole; few = rw e s.frames.backed.few };
          beyond = λ k l. s.frames.beyond k (rw e at l);
          zero = λ k f i l. zeros_blank w (512 * k + i);
        };
        good = subst (λ (p : Plan). Good p (decode (mem t z tr o (zeros w)))) (sym plan_blank)
            (record { plan = s.good.plan; known = s.good.known; sets = s.good.sets; frames = s.good.frames; cleared = λ j f. zeros_blank w j });
      }

  module _ (number : ℕ) (f : ℕ → Request) where
    -- what requests are answered, and what they make, is the same but for contents
    answers_same : (k : ℕ) → answer_to (plan_of (mem t z tr o (zeros w))) (decode (mem t z tr o (zeros w))) number f k ≡ answer_to (plan_of (mem t z tr o w)) (decode (mem t z tr o w)) number f k
    answers_same k = (λ i. answer_to (plan_blank i) (state_blank i) number f k) ∙ answer_blind (plan_of (mem t z tr o w)) (decode (mem t z tr o w)) number f k

    states_same : (k : ℕ) → state_after (plan_of (mem t z tr o (zeros w))) (decode (mem t z tr o (zeros w))) number f k ≡ blank (state_after (plan_of (mem t z tr o w)) (decode (mem t z tr o w)) number f k)
    states_same k = (λ i. state_after (plan_blank i) (state_blank i) number f k) ∙ after_blind (plan_of (mem t z tr o w)) (decode (mem t z tr o w)) number f k

    -- ---- one is refused

    pub list_halted : (n i : ℕ) (a : Answer) → i < n → is_done a ≡ false → ((v : List ℕ) → Blank v → Sound (mem t z tr o v) → Halts (mem t z tr o v) number f i a) → CallServed (mem t z tr o w) number (All (table f n)) (mem t z tr o w) (Reply.Stopped i a)
    list_halted n i a l d h = record { kept = λ u. refl; same = λ s. same (h (zeros w) (zeros_blank w) (sound_blank s)); sound = λ s. s; plan = λ s. refl }
      where
        same : Halts (mem t z tr o (zeros w)) number f i a → call (plan_of (mem t z tr o w)) (decode (mem t z tr o w)) number (All (table f n)) ≡ record { reply = Reply.Stopped i a; state = decode (mem t z tr o w) }
        same x =
            let e : answer_to (plan_of (mem t z tr o w)) (decode (mem t z tr o w)) number f i ≡ a = sym (answers_same i) ∙ x.answer in
            ap (all_or_none (decode (mem t z tr o w))) (tries_halted (plan_of (mem t z tr o w)) (decode (mem t z tr o w)) number f n i l (λ k y. ap is_done (sym (answers_same k)) ∙ x.done k y) (ap is_done e ∙ d) ∙ ap (Tried.Halted i) e)

    -- ---- all went through

    module _ (n : ℕ) (z' tr' o' w' buffer : List ℕ) (at : ℕ) (h : (v : List ℕ) → Blank v → Sound (mem t z tr o v) → Went (mem t z tr o v) number f n (mem t z' tr' o' v) buffer at) where
      -- where the memories are sound
      went : Sound (mem t z tr o w) → Went (mem t z tr o (zeros w)) number f n (mem t z' tr' o' (zeros w)) buffer at
      went s = h (zeros w) (zeros_blank w) (sound_blank s)

      pub list_told : Sound (mem t z tr o w) → (k : ℕ) → k < n → Told buffer at k (answer_to (plan_of (mem t z tr o w)) (decode (mem t z tr o w)) number f k)
      list_told s k l = subst (λ (a : Answer). Told buffer at k a) (answers_same k) ((went s).told k l)

      done : Sound (mem t z tr o w) → (k : ℕ) → k < n → is_done (answer_to (plan_of (mem t z tr o w)) (decode (mem t z tr o w)) number f k) ≡ true
      done s k l = ap is_done (sym (answers_same k)) ∙ (went s).done k l

      module _ (long : length w' ≡ length w)
          (words : (j : ℕ) → get_or w' j 0 ≡ cleared_by (address_of (plan_of (mem t z tr o w)) 0) (state tr o) (machine_of (table_config t) number) f n j (get_or w j 0)) where
        final : Sound (mem t z tr o w) → decode (mem t z' tr' o' w') ≡ state_after (plan_of (mem t z tr o w)) (decode (mem t z tr o w)) number f n
        final s = λ i. record { present = (e i).present; set = (e i).set; frame = (e i).frame; word = λ j. word j i }
          where
            e : decode (mem t z' tr' o' (zeros w)) ≡ blank (state_after (plan_of (mem t z tr o w)) (decode (mem t z tr o w)) number f n)
            e = (went s).state ∙ states_same n

            word : (j : ℕ) → get_or w' j 0 ≡ (state_after (plan_of (mem t z tr o w)) (decode (mem t z tr o w)) number f n).word j
            word j = words j ∙ sym (words_after (plan_of (mem t z tr o w)) (decode (mem t z tr o w)) number f s.good n (done s) j)

        plan_same : Sound (mem t z tr o w) → plan_of (mem t z' tr' o' w') ≡ plan_of (mem t z tr o w)
        plan_same s = λ i. record { config = table_config t; slots = ((went s).plan i).slots; frames = ((went s).plan i).frames; usable = long i / 512 }

        good : (s : Sound (mem t z tr o w)) → Good (plan_of (mem t z tr o w)) (decode (mem t z' tr' o' w'))
        good s = subst (λ (x : State). Good (plan_of (mem t z tr o w)) x) (sym (final s)) (after_good (plan_of (mem t z tr o w)) (decode (mem t z tr o w)) number f s.good n)

        sound : Sound (mem t z tr o w) → Sound (mem t z' tr' o' w')
        sound s =
            let x = (went s).sound in
            let e : length w' ≡ length (zeros w) = long ∙ sym (zeros_long w) in
            record {
              table = s.table;
              zones = x.zones;
              frames = record {
                accounted = x.frames.accounted;
                backed = record { whole = rw e x.frames.backed.whole; few = rw e x.frames.backed.few };
                beyond = λ k l. x.frames.beyond k (rw e at l);
                zero = λ k f i l. let q : (512 * k + i) / 512 ≡ k = omega arith in (good s).cleared (512 * k + i) (rw q f);
              };
              good = subst (λ (p : Plan). Good p (decode (mem t z' tr' o' w'))) (sym (plan_same s)) (good s);
            }

        pub list_through : CallServed (mem t z tr o w) number (All (table f n)) (mem t z' tr' o' w') (Reply.Done (table (answer_to (plan_of (mem t z tr o w)) (decode (mem t z tr o w)) number f) n))
        list_through =
            record {
              kept = λ u. absurd u;
              same = λ s. ap (all_or_none (decode (mem t z tr o w))) (tries_through (plan_of (mem t z tr o w)) (decode (mem t z tr o w)) number f n (done s)) ∙ (λ i. record { reply = Reply.Done (table (answer_to (plan_of (mem t z tr o w)) (decode (mem t z tr o w)) number f) n); state = sym (final s) i });
              sound = sound;
              plan = plan_same;
            }

-- ---- nothing is attempted

module _ (b : Mem) (number : ℕ) (f : ℕ → Request) where
  -- the memories are not sound
  pub list_corrupt : (n : ℕ) → (Sound b → ⊥) → CallServed b number (All (table f n)) b (Reply.Stopped 0 Answer.Corrupt)
  list_corrupt n d = record { kept = λ u. refl; same = λ s. absurd (d s); sound = λ s. s; plan = λ s. refl }

  -- no machine has the number
  pub list_nobody : (n : ℕ) → 0 < n → machine_of (plan_of b).config number ≡ (plan_of b).config.machines → CallServed b number (All (table f n)) b (Reply.Stopped 0 (Answer.No Reason.NoMachine))
  list_nobody n l e =
      let x : answer_to (plan_of b) (decode b) number f 0 ≡ Answer.No Reason.NoMachine = ap (λ (o : Outcome). o.answer) (of_nobody (plan_of b) (decode b) number (f 0) e) in
      record { kept = λ u. refl; same = λ s. ap (all_or_none (decode b)) (tries_halted (plan_of b) (decode b) number f n 0 l (λ k y. absurd (omega arith)) (ap is_done x) ∙ ap (Tried.Halted 0) x); sound = λ s. s; plan = λ s. refl }

  -- there is nothing to do
  pub list_empty : (n : ℕ) (buffer : List ℕ) (at : ℕ) → n ≡ 0 → ListDone b number f n b buffer at
  list_empty n buffer at e =
      record {
        served = subst (λ (k : ℕ). CallServed b number (All (table f k)) b (Reply.Done (table (answer_to (plan_of b) (decode b) number f) k))) (sym e) (record { kept = λ u. refl; same = λ s. refl; sound = λ s. s; plan = λ s. refl });
        told = λ s k l. absurd (omega arith);
      }

-- ---- what was attempted

module _ (t z tr o w : List ℕ) (number : ℕ) (f : ℕ → Request) (n : ℕ) (z' tr' o' buffer : List ℕ) (at : ℕ) where
  -- one was refused, and all was copied back
  pub list_stopped : (h : Halted) → UndoneSays t z tr o number f n z' tr' o' buffer at (Err h)
      → CallServed (mem t z tr o w) number (All (table f n)) (mem t z' tr' o' w) (Reply.Stopped h.index h.answer)
  list_stopped h u =
      subst (λ (b : Mem). CallServed (mem t z tr o w) number (All (table f n)) b (Reply.Stopped h.index h.answer))
      (λ j. mem t (sym u.0 j) (sym u.1 j) (sym u.2 j) w)
      (list_halted t z tr o w number f n h.index h.answer u.3.0 u.3.1 u.3.2)

  -- all were done, and what they freed was cleared
  pub list_done : (w' : List ℕ) (l : Lister) → IsLister t tr o w number l → (st so : List ℕ) → st ≡ tr → so ≡ o → UndoneSays t z tr o number f n z' tr' o' buffer at (Ok tt)
      → ClearedAll l.first (state st so) l.client f n w w' → ListDone (mem t z tr o w) number f n (mem t z' tr' o' w') buffer at
  list_done w' l is st so et eo h c =
      record {
        served = list_through t z tr o w number f n z' tr' o' w' buffer at h c.long (λ j. c.words j ∙ (λ i. cleared_by (first i) (state (et i) (eo i)) (is.client i) f n j (get_or w j 0)));
        told = list_told t z tr o w number f n z' tr' o' w' buffer at h;
      }
    where
      first : l.first ≡ address_of (plan_of (mem t z tr o w)) 0
      first = let e = is.first in omega arith

-- what was copied matches as what was there
pub still_matched : {tr o st so : List ℕ} → st ≡ tr → so ≡ o → Matched tr o → Matched st so
still_matched {tr} {o} {st} {so} et eo m = subst (λ (x : List ℕ). Matched x so) (sym et) (subst (λ (y : List ℕ). Matched tr y) (sym eo) m)

pub still_backed : {o so w : List ℕ} → so ≡ o → Backed o w → Backed so w
still_backed {w = w} eo b = subst (λ (y : List ℕ). Backed y w) (sym eo) b
