-- A machine writes to a frame that it owns: the memories stay sound, and mean what the write makes of what they meant. Assumes nothing.
use mathlib.Core.Path.{◌≡◌, sym, ◌∙◌, ap, subst}
use mathlib.Core.Bool.{Bool, true}
use Prim.Native.Nat.{ℕ, ◌+◌, ◌*◌, ◌/◌, ◌<◌}
use lib.ListN.{length, get_or, set, length-set}
use lib.Seq.{get_or-set_same, get_or-set_other}
use native.Mathlib.Omega.{arith}
use Rattle.base.specs.Choices.{pick, both, at}
use Rattle.base.proofs.Choices.{is_at, both_yes}
use Rattle.owners.specs.States.{State.Free, State.Owned, state}
use Rattle.contents.specs.Contents.{Clean}
use Rattle.machine.specs.State.{Plan, State, is_mine}
use Rattle.machine.specs.Run.{written}
use Rattle.machine.specs.Good.{Good}
use Rattle.machine.proofs.Frames.{free_not_owned, is_mine_lem}
use Rattle.machine.proofs.Keeps.{owned_usable, owner_writes}
use Rattle.hv_state.specs.Memory.{Mem, base_in, plan_of, decode, Sound}
use Rattle.hv_theorems.specs.Happening.{wrote}

module _ (b : Mem) (m j v : ℕ) (s : Sound b) (here : (decode b).present m ≡ true) (owns : (decode b).frame (j / 512) ≡ Owned m) where
  -- the word is one of the frames'
  inside : j < length b.words
  inside = let u = owned_usable (plan_of b) (decode b) s.good m (j / 512) owns in let e = s.frames.backed.whole in omega arith

  pub write_plan : plan_of (wrote b j v) ≡ plan_of b
  write_plan = λ i. record { config = (plan_of b).config; slots = (plan_of b).slots; frames = (plan_of b).frames; usable = length-set b.words j v i / 512 }

  word_is : (i : ℕ) → get_or (set b.words j v) i 0 ≡ at (λ k. get_or b.words k 0) j v i
  word_is = is_at (λ k. get_or b.words k 0) (λ k. get_or (set b.words j v) k 0) j v (get_or-set_same b.words j v 0 inside) (λ k d. get_or-set_other b.words j k v 0 d)

  allowed : both ((decode b).present m) (is_mine m ((decode b).frame (j / 512))) ≡ true
  allowed = both_yes here (is_mine_lem m ((decode b).frame (j / 512)) owns)

  pub write_state : decode (wrote b j v) ≡ written (decode b) m j v
  write_state = λ i. record { present = (decode b).present; set = (decode b).set; frame = (decode b).frame; word = words i }
    where
      words : (λ k. get_or (set b.words j v) k 0) ≡ (written (decode b) m j v).word
      words = (λ i k. word_is k i) ∙ sym (ap (λ (t : Bool). pick t (at (λ k. get_or b.words k 0) j v) (λ k. get_or b.words k 0)) allowed)

  write_clean : Clean (base_in b) b.tree b.owners (set b.words j v)
  write_clean =
      let e = length-set b.words j v in
      record {
        accounted = s.frames.accounted;
        backed = record { whole = rw e s.frames.backed.whole; few = rw e s.frames.backed.few };
        beyond = λ k l. s.frames.beyond k (rw e at l);
        zero = λ k f i l. other k f i l ∙ s.frames.zero k f i l;
      }
    where
      other : (k : ℕ) → state b.tree b.owners k ≡ Free → (i : ℕ) → i < 512 → get_or (set b.words j v) (512 * k + i) 0 ≡ get_or b.words (512 * k + i) 0
      other k f i l = get_or-set_other b.words j (512 * k + i) v 0 (λ q. let e : j / 512 ≡ k = omega arith in free_not_owned m (sym (rw e f) ∙ owns))

  pub write_sound : Sound (wrote b j v)
  write_sound =
      record {
        table = s.table;
        zones = s.zones;
        frames = write_clean;
        good = subst (λ (p : Plan). Good p (decode (wrote b j v))) (sym write_plan) (subst (λ (x : State). Good (plan_of b) x) (sym write_state) (owner_writes (plan_of b) (decode b) m j v s.good));
      }
