-- One more item of a sequence. Assumes nothing.
use mathlib.Core.Path.{◌≡◌, refl, sym, ◌∙◌, subst}
use mathlib.Core.List.{List, [], ◌∷◌}
use Prim.Native.Nat.{ℕ, ◌+◌, ◌*◌, ◌/◌, ◌≤◌, ◌<◌}
use lib.ListN.{length}
use native.Mathlib.Omega.{arith}
use Rattle.base.specs.Ranges.{Only}
use Rattle.base.proofs.Ranges.{only_none, only_then}
use Rattle.config_bytes.specs.Fields.{le64}
use Rattle.machine.specs.declared.Answer.{Answer}
use Rattle.list_attempt.specs.Attempting.{Told}
use Rattle.call_bytes.specs.Framing.{Item, item_at, behind, Framed, Framed.Ends, Framed.Goes}
use Rattle.hv_state.specs.Memory.{Mem}
use Rattle.hv_calls.specs.declared.Replied.{Replied}
use Rattle.hv_calls.specs.Calling.{SpareFits, members_in, answer_words, ReplySays}
use Rattle.reply_words.specs.Replies.{Wrote}
use Rattle.run_item.specs.Serving.{ItemServed}
use Rattle.run_items.specs.Running.{KeptBetween, Performed, Performed.Over, Performed.Next, Transcript}

-- the items from p on
pub record Ahead (s : List ℕ) (p : ℕ) : Type 0 where
  pub items : List Item
  pub framed : Framed s p items

-- the item at p is whole, and behind it there are items again
pub ahead_whole : {s : List ℕ} {p : ℕ} → p < length s → Ahead s p → behind s p ≤ length s
ahead_whole {s} {p} l a = go a.framed
  where
    go : {items : List Item} → Framed s p items → behind s p ≤ length s
    go (Ends e) = absurd (omega arith)
    go (Goes w rest) = w

pub ahead_next : {s : List ℕ} {p : ℕ} → p < length s → Ahead s p → Ahead s (behind s p)
ahead_next {s} {p} l a = go a.framed
  where
    go : {items : List Item} → Framed s p items → Ahead s (behind s p)
    go (Ends e) = absurd (omega arith)
    go (Goes {rest = rest} w f) = record { items = rest; framed = f }

-- the words from r and from `at` on are as they were lent, and what the rest of the items makes of b, whatever it is, is what all of them make of a
pub record Before (s : List ℕ) (p r at : ℕ) (a b : Mem) (replies₀ answers₀ replies answers : List ℕ) : Type 0 where
  pub replied : Only replies₀ 0 r replies
  pub told : Only answers₀ 0 at answers
  pub then : (fr fa : List ℕ) (xs : List Item) (d : Mem) → Framed s p xs → Performed s replies₀ answers₀ fr fa r at xs b d → KeptBetween replies 0 r fr → KeptBetween answers 0 at fa → Transcript s a d replies₀ answers₀ fr fa

pub before_all : (s : List ℕ) (b : Mem) (replies answers : List ℕ) → Before s 0 0 0 b b replies answers replies answers
before_all s b replies answers =
    record { replied = only_none replies 0 0; told = only_none answers 0 0; then = λ fr fa xs d f p kr ka. record { items = xs; framed = f; performed = p } }

-- a call has words enough for the answers to its members
few_words_lem : (len : ℕ) (said : Replied) → answer_words len said ≤ 2 * (len / 33)
few_words_lem len (Replied.Answered a) = omega arith
few_words_lem len Replied.Done = omega arith
few_words_lem len (Replied.Stopped i a) = omega arith
few_words_lem len (Replied.Malformed i) = omega arith

-- words that stay say what they said
still_told : (s answers fa : List ℕ) (from len number at : ℕ) (b b' : Mem) (said : Replied) → KeptBetween answers 0 (at + 2 * (len / 33)) fa → ReplySays s from len b number b' answers at said → ReplySays s from len b number b' fa at said
still_told s answers fa from len number at b b' (Replied.Answered a) k h = h
still_told s answers fa from len number at b b' Replied.Done k h =
    (h.0, record { served = h.1.served; told = λ ok i l. again i l _ (h.1.told ok i l) })
  where
    again : (i : ℕ) → i < members_in len → (a : Answer) → Told answers at i a → Told fa at i a
    again i l a t = record { code = k (at + 2 * i) (omega arith) (omega arith) ∙ t.code; address = k (at + 2 * i + 1) (omega arith) (omega arith) ∙ t.address }
still_told s answers fa from len number at b b' (Replied.Stopped i a) k h = h
still_told s answers fa from len number at b b' (Replied.Malformed i) k h = h

still_wrote : {replies fr : List ℕ} {r : ℕ} {said : Replied} → KeptBetween replies 0 (r + 3) fr → Wrote replies r said → Wrote fr r said
still_wrote {r = r} k w = record { code = k r (omega arith) (omega arith) ∙ w.code; index = k (r + 1) (omega arith) (omega arith) ∙ w.index; place = k (r + 2) (omega arith) (omega arith) ∙ w.place }

-- the item at p was served
pub before_rest : (s : List ℕ) (p r at len : ℕ) (a b b' : Mem) (replies₀ answers₀ replies replies' answers answers' : List ℕ) → len ≡ le64 s (p + 8) → behind s p ≤ length s → Before s p r at a b replies₀ answers₀ replies answers → ItemServed s p b b' replies r replies' answers at answers'
    → Before s (p + (16 + len)) (r + 3) (at + 2 * (len / 33)) a b' replies₀ answers₀ replies' answers'
before_rest s p r at len a b b' replies₀ answers₀ replies replies' answers answers' e w before i =
    let few = few_words_lem (le64 s (p + 8)) i.said in
    record {
      replied = only_then 0 (r + 3) before.replied i.replied (omega arith) (omega arith) (omega arith) (omega arith);
      told = only_then 0 (at + 2 * (len / 33)) before.told i.told (omega arith) (omega arith) (omega arith) (omega arith);
      then =
          λ fr fa xs d f q kr ka.
          before.then fr fa (item_at s p ∷ xs) d (Goes w (subst (λ (n : ℕ). Framed s (p + (16 + n)) xs) e f))
          (Next (item_at s p) i.said (still_told s answers' fa (p + 16) (le64 s (p + 8)) (le64 s p) at b b' i.said (subst (λ (n : ℕ). KeptBetween answers' 0 (at + 2 * (n / 33)) fa) e ka) i.says) (still_wrote kr i.wrote) (λ k l h. ka k (omega arith) (omega arith) ∙ i.told.others k (λ x y. omega arith) ∙ before.told.others k (λ x y. omega arith)) (subst (λ (n : ℕ). Performed s replies₀ answers₀ fr fa (r + 3) (at + 2 * (n / 33)) xs b' d) e q))
          (λ k z l. kr k (omega arith) (omega arith) ∙ i.replied.others k (λ x y. omega arith))
          (λ k z l. ka k (omega arith) (omega arith) ∙ i.told.others k (λ x y. omega arith));
    }

-- the last was served
pub before_none : (s : List ℕ) (p r at : ℕ) (a b : Mem) (replies₀ answers₀ replies answers : List ℕ) → p ≡ length s → Before s p r at a b replies₀ answers₀ replies answers → Transcript s a b replies₀ answers₀ replies answers
before_none s p r at a b replies₀ answers₀ replies answers e before = before.then replies answers [] b (Ends e) (Over before.replied before.told) (λ i z l. refl) (λ i z l. refl)

-- memory that keeps its length fits as it did
pub spare_stays : {z tr o a b c z' tr' o' a' b' c' : List ℕ} → SpareFits z tr o a b c → length z' ≡ length z → length tr' ≡ length tr → length o' ≡ length o → length a' ≡ length a → length b' ≡ length b → length c' ≡ length c → SpareFits z' tr' o' a' b' c'
spare_stays h ez et eo ea eb ec = record { zones = ea ∙ h.zones ∙ sym ez; tree = eb ∙ h.tree ∙ sym et; owners = ec ∙ h.owners ∙ sym eo }
