-- A machine is removed whole: what the memories mean afterwards is the step's. Assumes nothing.
use mathlib.Core.Path.{◌≡◌, refl, sym, ◌∙◌, ap, subst}
use mathlib.Core.Bool.{Bool, true, false}
use mathlib.Core.List.{List, []}
use Rattle.std.specs.Prelude.{⊤, Result, Ok, Err, is_ok}
use Prim.Native.Nat.{ℕ, ◌+◌, ◌*◌, ◌/◌, ◌%◌, ◌≤◌, ◌<◌, min}
use lib.Dec.{eqb}
use lib.ListN.{get_or}
use native.Mathlib.Decide.{ℕ_discrete, dec_lt}
use native.Mathlib.Omega.{arith}
use Rattle.base.specs.Ranges.{Only, Emptied}
use Rattle.base.specs.Choices.{pick, at}
use Rattle.base.proofs.Choices.{never, is_at}
use Rattle.region_words.specs.Words.{number_of}
use Rattle.config_view.specs.Table.{table_config}
use Rattle.set_model.specs.Sets.{table, Ordered}
use Rattle.set_slots.specs.Slots.{slot, regions_in, SetOk}
use Rattle.owners.specs.States.{State.Free, State.Owned, state}
use Rattle.owners.proofs.States.{client_not_reserved}
use Rattle.contents.specs.Contents.{frames_in, Clean}
use Rattle.claims.specs.declared.Unfit.{Unfit}
use Rattle.claims.specs.Fits.{Misfit}
use Rattle.frames_pool.specs.declared.NotLeft.{NotLeft}
use Rattle.frames_pool.specs.Pool.{Released, Homeless, ReleaseSays}
use Rattle.machine.specs.declared.Which.{Which}
use Rattle.machine.specs.declared.Request.TheVariants.{RemoveZoneWhole}
use Rattle.machine.specs.declared.Answer.{Answer}
use Rattle.machine.specs.State.{out, is_mine}
use Rattle.machine.specs.Step.{machine_of}
use Rattle.machine.proofs.Frames.{mine_is, is_mine_lem}
use Rattle.machine.proofs.Cases.{of_present}
use Rattle.zones.specs.Layout.{stride, slots_in, place_of, set_at}
use Rattle.hv_state.specs.Memory.{Mem, plan_of, decode, present_in, set_place, set_in, ZonesOk}
use Rattle.hv_state.specs.Serving.{Served, mem}
use Rattle.hv_state.proofs.Serving.{unsound, succeeds}
use Rattle.hv_state.proofs.Places.{set_low, set_high}
use Rattle.hv_state.proofs.Zones.{slots_kept, shaped_kept, present_is, set_is, other_present, other_set, other_ok, other_flag}
use Rattle.hv_asker.specs.declared.Client.{Client}
use Rattle.hv_asker.specs.Asking.{IsClient}
use Rattle.hv_whole.specs.Freeing.{FreedSays}

-- ---- frames

-- memories that are in order fit
pub unfit_not : (base : ℕ) (t o w : List ℕ) (why : Unfit) → Misfit base t o why → Clean base t o w → ⊥
unfit_not base t o w Unfit.NotFull d c = d c.accounted.matched.full
unfit_not base t o w Unfit.Unmatched d c = d.1 c.accounted.matched.bytes
unfit_not base t o w Unfit.BadBase d c = d.1 c.accounted.aligned

-- and no client owns a frame without contents
pub homeless_not : (base : ℕ) (t o w : List ℕ) (c : ℕ) → Homeless base t o w c → Clean base t o w → ⊥
homeless_not base t o w c d k = client_not_reserved c (sym d.mine ∙ k.beyond d.frame d.past)

-- whether a client's frames were released
pub freed_all : (base : ℕ) (t o w : List ℕ) (c : ℕ) (t' o' w' : List ℕ) (r : Result ⊤ NotLeft) → ReleaseSays base t o w c t' o' w' r → FreedSays base t o w c t' o' w' (is_ok r)
freed_all base t o w c t' o' w' (Ok _) h = h
freed_all base t o w c t' o' w' (Err NotLeft.Unbacked) h = (h.0, λ l k. h.1 k.backed)
freed_all base t o w c t' o' w' (Err NotLeft.Corrupt) h = (h.0, λ l k. homeless_not base t o w c h.1 k)
freed_all base t o w c t' o' w' (Err NotLeft.NoClient) h = (h.0, λ l k. absurd (omega (arith, l, h.2)))
freed_all base t o w c t' o' w' (Err (NotLeft.Unfit why)) h = (h.0, λ l k. unfit_not base t o w why h.2 k)

-- ---- a machine's words are all 0

module _ (z z' : List ℕ) (n m : ℕ) (l : m < n) (e : Emptied z (place_of (slots_in z n) m) (place_of (slots_in z n) m + stride (slots_in z n)) z') where
  only : Only z (place_of (slots_in z n) m) (place_of (slots_in z n) m + stride (slots_in z n)) z'
  only = record { long = e.long; others = e.outside }

  zero_count : (w : Which) → get_or z' (set_place z n m w) 0 ≡ 0
  zero_count w = let a = set_low (place_of (slots_in z n) m) (slots_in z n) w in let b = set_high (place_of (slots_in z n) m) (slots_in z n) w in e.inside (set_place z n m w) (omega arith) (omega arith)

  zero_regions : (w : Which) → regions_in z' (set_place z n m w) (slots_in z n) ≡ []
  unfolding regions_in
  zero_regions w = ap (λ (x : ℕ). table (slot z' (set_place z n m w)) (min (slots_in z n) x)) (zero_count w) ∙ ap (table (slot z' (set_place z n m w))) (let q : min (slots_in z n) 0 ≡ 0 = omega arith in q)

  zero_set : (w : Which) → SetOk z' (set_place z n m w) (slots_in z n)
  unfolding number_of
  zero_set w =
      record {
        few = rw (zero_count w) (omega arith);
        kinds = λ i h. absurd (let q : i < 0 = rw (zero_count w) at h in omega arith);
        clear = λ i g h. record { guest = word i (set_place z n m w + 1 + 4 * i) (omega arith) (omega arith) h; host = word i (set_place z n m w + 1 + 4 * i + 1) (omega arith) (omega arith) h; pages = word i (set_place z n m w + 1 + 4 * i + 2) (omega arith) (omega arith) h; kind = word i (set_place z n m w + 1 + 4 * i + 3) (omega arith) (omega arith) h };
        ordered = subst Ordered (sym (zero_regions w)) tt;
      }
    where
      word : (i k : ℕ) → set_place z n m w + 1 + 4 * i ≤ k → k < set_place z n m w + 1 + 4 * i + 4 → i < slots_in z n → get_or z' k 0 ≡ 0
      word i k a b h = let x = set_low (place_of (slots_in z n) m) (slots_in z n) w in let y = set_high (place_of (slots_in z n) m) (slots_in z n) w in e.inside k (omega arith) (omega arith)

  pub gone_present : present_in z' n ≡ at (present_in z n) m false
  gone_present = λ i m'. is_at (present_in z n) (present_in z' n) m false here (other_present z z' n m (place_of (slots_in z n) m) (place_of (slots_in z n) m + stride (slots_in z n)) only (omega arith) (omega arith)) m' i
    where
      here : present_in z' n m ≡ false
      here = present_is z' n m l ∙ ap (λ (x : ℕ). eqb (get_or z' (place_of x m) 0) 1) (slots_kept z z' n e.long) ∙ ap (λ (x : ℕ). eqb x 1) (e.inside (place_of (slots_in z n) m) (omega arith) (omega arith))

  pub gone_sets : set_in z' n ≡ at (set_in z n) m (λ w. [])
  gone_sets = λ i m'. is_at (set_in z n) (set_in z' n) m (λ w. []) (λ j w. here w j) (λ m' d j w. other_set z z' n m (place_of (slots_in z n) m) (place_of (slots_in z n) m + stride (slots_in z n)) only (omega arith) (omega arith) m' d w j) m' i
    where
      here : (w : Which) → set_in z' n m w ≡ []
      here w = set_is z' n m w l ∙ ap (λ (x : ℕ). regions_in z' (set_at (place_of x m) x w) x) (slots_kept z z' n e.long) ∙ zero_regions w

  pub gone_ok : ZonesOk z n → ZonesOk z' n
  gone_ok ok =
      record {
        flagged = record { shaped = shaped_kept z z' n e.long ok.flagged.shaped; flags = λ m' h. rw (slots_kept z z' n e.long) (flag m' h (ℕ_discrete m' m)) };
        sets = λ m' h w. rw (slots_kept z z' n e.long) (sets m' h w (ℕ_discrete m' m));
      }
    where
      flag : (m' : ℕ) → m' < n → Dec (m' ≡ m) → get_or z' (place_of (slots_in z n) m') 0 < 2
      flag m' h (yes q) = rw (q, e.inside (place_of (slots_in z n) m) (omega arith) (omega arith)) (omega arith)
      flag m' h (no d) = rw (other_flag z z' n m (place_of (slots_in z n) m) (place_of (slots_in z n) m + stride (slots_in z n)) only (omega arith) (omega arith) m' d) (ok.flagged.flags m' h)

      sets : (m' : ℕ) → m' < n → (w : Which) → Dec (m' ≡ m) → SetOk z' (set_place z n m' w) (slots_in z n)
      sets m' h w (yes q) = rw q (zero_set w)
      sets m' h w (no d) = other_ok z z' n m (place_of (slots_in z n) m) (place_of (slots_in z n) m + stride (slots_in z n)) only (omega arith) (omega arith) m' d w (ok.sets m' h w)

-- ---- the machine is gone

module _ (t z tr o w : List ℕ) (number : ℕ) (c : Client) (is : IsClient t z number c) where
  -- sound memories are in order
  pub not_freed : (tr' o' w' : List ℕ) → FreedSays c.base tr o w c.client tr' o' w' false → Served (mem t z tr o w) number RemoveZoneWhole (mem t z tr' o' w') Answer.Corrupt
  not_freed tr' o' w' d =
      subst (λ (b : Mem). Served (mem t z tr o w) number RemoveZoneWhole b Answer.Corrupt) (λ i. mem t z (sym d.0.tree i) (sym d.0.bytes i) (sym d.0.words i))
      (unsound (mem t z tr o w) number RemoveZoneWhole Answer.Corrupt (λ s. d.1 (let e = is.client in let l = is.here.machine in omega arith) (subst (λ (x : ℕ). Clean x tr o w) (sym is.base) s.frames)))

  module _ (tr' o' w' z' : List ℕ) (r : Released c.base tr o w c.client tr' o' w') (e : Emptied z c.place (c.place + (3 + 8 * c.slots)) z') where
    emptied : Emptied z (place_of (slots_in z (table_config t).machines) (machine_of (table_config t) number)) (place_of (slots_in z (table_config t).machines) (machine_of (table_config t) number) + stride (slots_in z (table_config t).machines)) z'
    emptied = subst (λ (x : ℕ). Emptied z x (x + stride (slots_in z (table_config t).machines)) z') is.place (subst (λ (x : ℕ). Emptied z c.place (c.place + stride x) z') is.slots e)

    frame : (k : ℕ) → state tr' o' k ≡ pick (is_mine (machine_of (table_config t) number) (state tr o k)) Free (state tr o k)
    frame k = go (is_mine (machine_of (table_config t) number) (state tr o k)) refl
      where
        go : (b : Bool) → is_mine (machine_of (table_config t) number) (state tr o k) ≡ b → state tr' o' k ≡ pick b Free (state tr o k)
        go true q = r.released.freed k (mine_is (machine_of (table_config t) number) (state tr o k) q ∙ ap Owned (sym is.client))
        go false q = r.released.others k (λ x. never (sym (is_mine_lem (machine_of (table_config t) number) (state tr o k) (x ∙ ap Owned is.client)) ∙ q))

    word : (j : ℕ) → get_or w' j 0 ≡ pick (is_mine (machine_of (table_config t) number) (state tr o (j / 512))) 0 (get_or w j 0)
    word j = go (is_mine (machine_of (table_config t) number) (state tr o (j / 512))) refl
      where
        place : 512 * (j / 512) + j % 512 ≡ j
        place = omega arith

        owned : is_mine (machine_of (table_config t) number) (state tr o (j / 512)) ≡ true → state tr o (j / 512) ≡ Owned c.client
        owned q = mine_is (machine_of (table_config t) number) (state tr o (j / 512)) q ∙ ap Owned (sym is.client)

        within : is_mine (machine_of (table_config t) number) (state tr o (j / 512)) ≡ true → Dec (j / 512 < frames_in w) → j / 512 < frames_in w
        within q (yes h) = h
        within q (no h) = absurd (r.inside (j / 512) (omega (arith, h)) (owned q))

        go : (b : Bool) → is_mine (machine_of (table_config t) number) (state tr o (j / 512)) ≡ b → get_or w' j 0 ≡ pick b 0 (get_or w j 0)
        go true q = rw place at (r.wiped.mine (j / 512) (within q (dec_lt (j / 512) (frames_in w))) (owned q) (j % 512) (omega arith))
        go false q = rw place at (r.wiped.others (j / 512) (λ x. never (sym (is_mine_lem (machine_of (table_config t) number) (state tr o (j / 512)) (x ∙ ap Owned is.client)) ∙ q)) (j % 512) (omega arith))

    pub whole_served : Served (mem t z tr o w) number RemoveZoneWhole (mem t z' tr' o' w') Answer.Done
    whole_served =
        let n = (table_config t).machines in
        let m = machine_of (table_config t) number in
        succeeds (mem t z tr o w) number RemoveZoneWhole (mem t z' tr' o' w') Answer.Done (λ x. x) refl
        (λ s i. record { config = table_config t; slots = slots_kept z z' n emptied.long i; frames = 15 * r.released.words i + 1; usable = r.wiped.long i / 512 })
        (λ s. gone_ok z z' n m is.here.machine emptied s.zones)
        (λ s. subst (λ (x : ℕ). Clean x tr' o' w') is.base (r.clean (subst (λ (x : ℕ). Clean x tr o w) (sym is.base) s.frames)))
        (λ s. of_present (plan_of (mem t z tr o w)) (decode (mem t z tr o w)) number RemoveZoneWhole is.here.machine is.here.present
        ∙ sym (λ i. out Answer.Done (record { present = gone_present z z' n m is.here.machine emptied i; set = gone_sets z z' n m is.here.machine emptied i; frame = λ k. frame k i; word = λ j. word j i })))
