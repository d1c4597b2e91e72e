-- What a machine is answered depends on its own part, and for requests of the pool on which frames are free. Assumes nothing.
use mathlib.Core.Path.{◌≡◌, refl, sym, ◌∙◌, ap, subst}
use mathlib.Core.Bool.{Bool, true, false, not}
use mathlib.Core.List.{List, [], ◌∷◌}
use Prim.Native.Nat.{ℕ, suc, ◌+◌, ◌-◌, ◌/◌, ◌%◌, ◌^◌, ◌<◌, ◌≤◌}
use lib.Dec.{eqb, leb, ltb}
use lib.ListN.{length}
use borrow.Author.Tests.{eqb-true, eqb-false, ltb-true}
use Rattle.base.specs.Choices.{pick, both, at, within, lowest, all_from}
use Rattle.base.proofs.Choices.{never, by2, at_here, at_both, run_both, run_cases, lowest_yes}
use Rattle.address.specs.declared.Region.{Region}
use Rattle.set_model.specs.Sets.{same, meets, covers, any, none, enter, without}
use Rattle.owners.specs.States as frames
use Rattle.owners.specs.States.{State.Free, State.Owned}
use Rattle.machine.specs.declared.Which.{Which}
use Rattle.machine.specs.declared.Which.TheVariants.{Processors, Devices}
use Rattle.machine.specs.declared.Request.{Request}
use Rattle.machine.specs.declared.Request.TheVariants.{AddZone, RemoveZone, RemoveZoneWhole, Insert, Remove, Translate, Alloc, AllocContiguous, Dealloc, DeallocContiguous}
use Rattle.machine.specs.declared.Answer.{Answer}
use Rattle.machine.specs.State.{Plan, State, out, is_free, is_mine, address_of, with_present, change, with_set, taken, gone, freed}
use Rattle.machine.specs.Step.{machine_of, givens, fits, takes, first_other, gives, is_empty, present, absent, act, step}
use Rattle.machine.specs.Lists.{Call, Call.One, Call.All, Reply, Reply.Answered, Reply.Stopped, is_done, Tried, Tried.Through, Tried.Halted, before, tries, all_or_none, call}
use Rattle.machine.specs.Run.{Event, Event.Asks, Event.Writes, written}
use Rattle.machine.specs.Good.{Good}
use Rattle.machine.specs.Parts.{Alike}
use Rattle.machine.specs.Own.{FreeAlike, SameOut, SameReply, of_pool, some_pool, calls_pool, only, replies, Quiet}
use Rattle.machine.proofs.Frames.{run_free}
use Rattle.machine.proofs.Keeps.{step_good, call_good, owner_writes}
use Rattle.machine.proofs.Others.{alike_self, alike_then, calls_unchanged, writes_own}

module _ (p : Plan) (m : ℕ) (a b : State) (ga : Good p a) (gb : Good p b) (h : Alike m a b) where
  -- an outcome that leaves both
  alone : (x : Answer) → SameOut m a b (out x a) (out x b)
  alone x = record { answer = refl; part = h; free = λ f. f }

  presence_both : (v : Bool) → SameOut m a b (out Answer.Done (with_present a m v)) (out Answer.Done (with_present b m v))
  presence_both v = record { answer = refl; part = record { present = at_both (λ (x : Bool). x) a.present b.present m v m h.present; set = h.set; mine = h.mine; words = h.words }; free = λ f. f }

  change_both : (w v : Which) (l : List Region) → change w l (a.set m) v ≡ change w l (b.set m) v
  change_both Processors Processors l = refl
  change_both Processors Devices l = h.set Devices
  change_both Devices Processors l = h.set Processors
  change_both Devices Devices l = refl

  set_both : (w : Which) (l : List Region) → SameOut m a b (out Answer.Done (with_set a m w l)) (out Answer.Done (with_set b m w l))
  set_both w l =
      record {
        answer = refl;
        part = record {
          present = h.present;
          set = λ v. ap (λ (f : Which → List Region). f v) (at_here a.set m (change w l (a.set m))) ∙ change_both w v l ∙ sym (ap (λ (f : Which → List Region). f v) (at_here b.set m (change w l (b.set m))));
          mine = h.mine;
          words = h.words;
        };
        free = λ f. f;
      }

  gone_both : SameOut m a b (out Answer.Done (gone a m)) (out Answer.Done (gone b m))
  gone_both =
      record {
        answer = refl;
        part = record {
          present = at_here a.present m false ∙ sym (at_here b.present m false);
          set = λ v. ap (λ (f : Which → List Region). f v) (at_here a.set m (λ w. []) ∙ sym (at_here b.set m (λ w. [])));
          mine = λ k. none_left (a.frame k) ∙ sym (none_left (b.frame k));
          words = λ j e. never (sym e ∙ none_left (b.frame (j / 512)));
        };
        free = λ f k. freed_alike f k (is_mine m (b.frame k)) (h.mine k);
      }
    where
      freed_alike : FreeAlike a b → (k : ℕ) (t : Bool) → is_mine m (a.frame k) ≡ t → is_free (pick (is_mine m (a.frame k)) Free (a.frame k)) ≡ is_free (pick t Free (b.frame k))
      freed_alike f k true e = rw e
      freed_alike f k false e = rw e (f k)

      none_left : (f : frames.State) → is_mine m (pick (is_mine m f) Free f) ≡ false
      none_left f = go (is_mine m f) refl
        where
          go : (t : Bool) → is_mine m f ≡ t → is_mine m (pick t Free f) ≡ false
          go true e = refl
          go false e = e

  taken_both : (k n x : ℕ) → ((j : ℕ) → k ≤ j → j < k + n → a.frame j ≡ Free) → ((j : ℕ) → k ≤ j → j < k + n → b.frame j ≡ Free) → SameOut m a b (out (Answer.Address x) (taken a m k n)) (out (Answer.Address x) (taken b m k n))
  taken_both k n x fa fb =
      record {
        answer = refl;
        part = record {
          present = h.present;
          set = h.set;
          mine = λ j. run_both (is_mine m) a.frame b.frame k n (Owned m) j (h.mine j);
          words = λ j. run_cases (λ i v. i ≡ j / 512 → is_mine m v ≡ true → a.word j ≡ b.word j) b.frame k n (Owned m) (λ i l u e t. ga.cleared j (subst (λ (y : ℕ). a.frame y ≡ Free) e (fa i l u)) ∙ sym (gb.cleared j (subst (λ (y : ℕ). b.frame y ≡ Free) e (fb i l u)))) (λ i o e t. h.words j (subst (λ (y : ℕ). is_mine m (b.frame y) ≡ true) e t)) (j / 512) refl;
        };
        free = λ f j. run_both is_free a.frame b.frame k n (Owned m) j (f j);
      }

  freed_both : (k n : ℕ) → SameOut m a b (out Answer.Done (freed a k n)) (out Answer.Done (freed b k n))
  freed_both k n =
      record {
        answer = refl;
        part = record {
          present = h.present;
          set = h.set;
          mine = λ j. run_both (is_mine m) a.frame b.frame k n Free j (h.mine j);
          words = λ j. go j (within k n (j / 512));
        };
        free = λ f j. run_both is_free a.frame b.frame k n Free j (f j);
      }
    where
      go : (j : ℕ) (t : Bool) → is_mine m (pick t Free (b.frame (j / 512))) ≡ true → pick t 0 (a.word j) ≡ pick t 0 (b.word j)
      go j true e = refl
      go j false e = h.words j e

  takes_both : (n al : ℕ) → FreeAlike a b → SameOut m a b (takes p a m n al) (takes p b m n al)
  takes_both n al f =
      let k = lowest (fits p b n al) p.frames in
      by2 (SameOut m a b) (eqb n 0) _ _ _ _ (λ e. alone _)
      (λ e. rw same_lowest (by2 (SameOut m a b) (ltb k p.frames) _ _ _ _ (λ g. taken_both k n (address_of p k) (run_free p a n al k (same_fits k ∙ yes_fits g)) (run_free p b n al k (yes_fits g))) (λ g. alone _)))
    where
      same_fits : (k : ℕ) → fits p a n al k ≡ fits p b n al k
      same_fits k = λ i. both (eqb (k % 2 ^ al) 0) (both (leb (k + n) p.frames) (all_from (λ j. f j i) k n))

      same_lowest : lowest (fits p a n al) p.frames ≡ lowest (fits p b n al) p.frames
      same_lowest = λ i. lowest (λ k. same_fits k i) p.frames

      yes_fits : ltb (lowest (fits p b n al) p.frames) p.frames ≡ true → fits p b n al (lowest (fits p b n al) p.frames) ≡ true
      yes_fits g = lowest_yes (fits p b n al) p.frames (ltb-true (lowest (fits p b n al) p.frames) p.frames g)

  gives_both : (addr n : ℕ) → FreeAlike a b → SameOut m a b (gives p a m addr n) (gives p b m addr n)
  gives_both addr n f =
      let k = (addr - address_of p 0) / 4096 in
      let r = first_other b.frame m k n in
      by2 (SameOut m a b) (ltb addr (address_of p 0)) _ _ _ _ (λ e. alone _)
      (λ e. by2 (SameOut m a b) (eqb ((addr - address_of p 0) % 4096) 0) _ _ _ _
      (λ x. by2 (SameOut m a b) (eqb n 0) _ _ _ _ (λ y. alone _)
      (λ y. by2 (SameOut m a b) (ltb p.frames (k + n)) _ _ _ _ (λ z. alone _)
      (λ z. rw same_other (by2 (SameOut m a b) (ltb r (k + n)) _ _ _ _ (λ q. rw (f r) (by2 (SameOut m a b) (is_free (b.frame r)) _ _ _ _ (λ u. alone _) (λ u. alone _))) (λ q. freed_both k n)))))
      (λ x. alone _))
    where
      same_other : first_other a.frame m ((addr - address_of p 0) / 4096) n ≡ first_other b.frame m ((addr - address_of p 0) / 4096) n
      same_other = λ i. (addr - address_of p 0) / 4096 + lowest (λ j. not (h.mine ((addr - address_of p 0) / 4096 + j) i)) n

  same_empty : is_empty p a m ≡ is_empty p b m
  same_empty = λ i. both (none (h.set Processors i)) (both (none (h.set Devices i)) (all_from (λ k. not (h.mine k i)) 0 p.frames))

  present_both : (q : Request) → (of_pool q ≡ true → FreeAlike a b) → SameOut m a b (present p a m q) (present p b m q)
  present_both AddZone f = alone _
  present_both RemoveZone f = rw same_empty (by2 (SameOut m a b) (is_empty p b m) _ _ _ _ (λ e. presence_both false) (λ e. alone _))
  present_both RemoveZoneWhole f = gone_both
  present_both (Insert w r) f =
      rw (h.set w)
      (by2 (SameOut m a b) (any (same r) (givens p.config m w)) _ _ _ _
      (λ e. by2 (SameOut m a b) (any (meets r) (b.set m w)) _ _ _ _ (λ x. alone _) (λ x. by2 (SameOut m a b) (ltb (length (b.set m w)) p.slots) _ _ _ _ (λ y. set_both w (enter r (b.set m w))) (λ y. alone _)))
      (λ e. alone _))
  present_both (Remove w r) f = rw (h.set w) (by2 (SameOut m a b) (any (same r) (b.set m w)) _ _ _ _ (λ e. set_both w (without (same r) (b.set m w))) (λ e. alone _))
  present_both (Translate w addr) f = rw (h.set w) (by2 (SameOut m a b) (any (covers addr) (b.set m w)) _ _ _ _ (λ e. alone _) (λ e. alone _))
  present_both Alloc f = takes_both 1 0 (f refl)
  present_both (AllocContiguous n al) f = takes_both n al (f refl)
  present_both (Dealloc addr) f = gives_both addr 1 (f refl)
  present_both (DeallocContiguous addr n) f = gives_both addr n (f refl)

  absent_both : (q : Request) → SameOut m a b (absent a m q) (absent b m q)
  absent_both AddZone = presence_both true
  absent_both RemoveZone = alone _
  absent_both RemoveZoneWhole = alone _
  absent_both (Insert w r) = alone _
  absent_both (Remove w r) = alone _
  absent_both (Translate w addr) = alone _
  absent_both Alloc = alone _
  absent_both (AllocContiguous n al) = alone _
  absent_both (Dealloc addr) = alone _
  absent_both (DeallocContiguous addr n) = alone _

  act_both : (q : Request) → (of_pool q ≡ true → FreeAlike a b) → SameOut m a b (act p a m q) (act p b m q)
  act_both q f = rw h.present (by2 (SameOut m a b) (b.present m) _ _ _ _ (λ e. present_both q f) (λ e. absent_both q))

-- The answer to a machine, and its part afterwards, depend on the plan, its part, and for requests of the pool on which frames are free.
pub answers_own : (p : Plan) (number : ℕ) (a b : State) → Good p a → Good p b → Alike (machine_of p.config number) a b → (q : Request) → (of_pool q ≡ true → FreeAlike a b) → SameOut (machine_of p.config number) a b (step p a number q) (step p b number q)
unfolding step
answers_own p number a b ga gb h q f =
    let m = machine_of p.config number in
    by2 (SameOut m a b) (ltb m p.config.machines) _ _ _ _ (λ e. act_both p m a b ga gb h q f) (λ e. record { answer = refl; part = h; free = λ x. x })

-- ---- lists

-- of two states a and b, tried from c and d on: the same answers and parts, or the same place
data SameTried (m : ℕ) (c d : State) : Tried → Tried → Type 0 where
  BothThrough : (l l' : List Answer) (s t : State) → l ≡ l' → Alike m s t → (FreeAlike c d → FreeAlike s t) → SameTried m c d (Through l s) (Through l' t)
  BothHalted : (i : ℕ) (x y : Answer) → x ≡ y → SameTried m c d (Halted i x) (Halted i y)

tried_before : (m : ℕ) (a b c d : State) (x y : Answer) → x ≡ y → (FreeAlike a b → FreeAlike c d) → (s t : Tried) → SameTried m c d s t → SameTried m a b (before x s) (before y t)
tried_before m a b c d x y e f s t (SameTried.BothThrough l l' u v g h k) = BothThrough (x ∷ l) (y ∷ l') u v (λ i. e i ∷ g i) h (λ z. k (f z))
tried_before m a b c d x y e f s t (SameTried.BothHalted i u v g) = BothHalted (suc i) u v g

-- a list that begins with a request of the pool, or goes on with one, is one of the pool
pool_first : (q : Request) (qs : List Request) → of_pool q ≡ true → some_pool (q ∷ qs) ≡ true
pool_first q qs e = rw e

pool_later : (q : Request) (qs : List Request) → some_pool qs ≡ true → some_pool (q ∷ qs) ≡ true
pool_later q qs e = go (of_pool q)
  where
    go : (b : Bool) → pick b true (some_pool qs) ≡ true
    go true = refl
    go false = e

tries_own : (p : Plan) (number : ℕ) (qs : List Request) (a b : State) → Good p a → Good p b → Alike (machine_of p.config number) a b → (some_pool qs ≡ true → FreeAlike a b) → SameTried (machine_of p.config number) a b (tries p a number qs) (tries p b number qs)
tries_own p number [] a b ga gb h f = BothThrough [] [] a b refl h (λ x. x)
tries_own p number (q ∷ qs) a b ga gb h f =
    let m = machine_of p.config number in
    let o = answers_own p number a b ga gb h q (λ e. f (pool_first q qs e)) in
    let t = tries_own p number qs (step p a number q).state (step p b number q).state (step_good p a number q ga) (step_good p b number q gb) o.part (λ e. o.free (f (pool_later q qs e))) in
    go (is_done (step p b number q).answer) (ap is_done o.answer) (tried_before m a b (step p a number q).state (step p b number q).state (step p a number q).answer (step p b number q).answer o.answer o.free (tries p (step p a number q).state number qs) (tries p (step p b number q).state number qs) t) (BothHalted 0 (step p a number q).answer (step p b number q).answer o.answer)
  where
    go : (c : Bool) → is_done (step p a number q).answer ≡ c → {x y x' y' : Tried} → SameTried (machine_of p.config number) a b x y → SameTried (machine_of p.config number) a b x' y' → SameTried (machine_of p.config number) a b (pick (is_done (step p a number q).answer) x x') (pick c y y')
    go true e u v = rw e u
    go false e u v = rw e v

-- The reply to a call, and the machine's part afterwards, depend on the same.
pub replies_own : (p : Plan) (number : ℕ) (a b : State) → Good p a → Good p b → Alike (machine_of p.config number) a b → (c : Call) → (calls_pool c ≡ true → FreeAlike a b) → SameReply (machine_of p.config number) a b (call p a number c) (call p b number c)
replies_own p number a b ga gb h (One q) f = let o = answers_own p number a b ga gb h q f in record { reply = ap Answered o.answer; part = o.part; free = o.free }
replies_own p number a b ga gb h (All qs) f = go (tries p a number qs) (tries p b number qs) (tries_own p number qs a b ga gb h f)
  where
    go : (x y : Tried) → SameTried (machine_of p.config number) a b x y → SameReply (machine_of p.config number) a b (all_or_none a x) (all_or_none b y)
    go x y (SameTried.BothThrough l l' s t e g k) = record { reply = ap Reply.Done e; part = g; free = k }
    go x y (SameTried.BothHalted i u v e) = record { reply = ap (Stopped i) e; part = h; free = λ z. z }

-- a machine's write in both
write_both : (m j v : ℕ) (a b : State) → Alike m a b → Alike m (written a m j v) (written b m j v)
write_both m j v a b h = record { present = h.present; set = h.set; mine = h.mine; words = λ i e. go i e (both (b.present m) (is_mine m (b.frame (j / 512)))) (λ k. both (h.present k) (h.mine (j / 512) k)) }
  where
    go : (i : ℕ) → is_mine m (b.frame (i / 512)) ≡ true → (t : Bool) → both (a.present m) (is_mine m (a.frame (j / 512))) ≡ t → pick (both (a.present m) (is_mine m (a.frame (j / 512)))) (at a.word j v) a.word i ≡ pick t (at b.word j v) b.word i
    go i e true q = rw q (at_both (λ (x : ℕ). x) a.word b.word j v i (h.words i e))
    go i e false q = rw q (h.words i e)

-- For a machine that asks nothing of the pool, the others might as well not be.
module _ (p : Plan) (m : ℕ) where
  purge_from : (xs : List Event) → Quiet p m xs → (a b : State) → Good p a → Good p b → Alike m a b → replies p m a xs ≡ replies p m b (only p m xs)
  purge_from [] q a b ga gb h = refl
  purge_from (Asks number c ∷ xs) q a b ga gb h = go (eqb (machine_of p.config number) m) refl (purge_from xs q.1)
    where
      go : (t : Bool) → eqb (machine_of p.config number) m ≡ t → ((a b : State) → Good p a → Good p b → Alike m a b → replies p m a xs ≡ replies p m b (only p m xs))
          → pick t ((call p a number c).reply ∷ replies p m (call p a number c).state xs) (replies p m (call p a number c).state xs) ≡ replies p m b (pick t (Asks number c ∷ only p m xs) (only p m xs))
      go true e more =
          let w = eqb-true (machine_of p.config number) m e in
          let o = subst (λ (x : ℕ). SameReply x a b (call p a number c) (call p b number c)) w (replies_own p number a b ga gb (subst (λ (x : ℕ). Alike x a b) (sym w) h) c (λ t. never (sym t ∙ q.0 e))) in
          rw e (λ i. o.reply i ∷ more (call p a number c).state (call p b number c).state (call_good p a number c ga) (call_good p b number c gb) o.part i)
      go false e more = more (call p a number c).state b (call_good p a number c ga) gb (alike_then m (call p a number c).state a b (calls_unchanged p a number c m (λ w. eqb-false (machine_of p.config number) m e (sym w))) h)
  purge_from (Writes n j v ∷ xs) q a b ga gb h = go (eqb n m) refl (purge_from xs q.1)
    where
      go : (t : Bool) → eqb n m ≡ t → ((a b : State) → Good p a → Good p b → Alike m a b → replies p m a xs ≡ replies p m b (only p m xs))
          → pick t (replies p m (written a n j v) xs) (replies p m (written a n j v) xs) ≡ replies p m b (pick t (Writes n j v ∷ only p m xs) (only p m xs))
      go true e more = let w = eqb-true n m e in rw e (more (written a n j v) (written b n j v) (owner_writes p a n j v ga) (owner_writes p b n j v gb) (subst (λ (x : ℕ). Alike m (written a x j v) (written b x j v)) (sym w) (write_both m j v a b h)))
      go false e more = more (written a n j v) b (owner_writes p a n j v ga) gb (alike_then m (written a n j v) a b (writes_own a n j v m (λ w. eqb-false n m e (sym w))) h)

  -- its replies in any run are those in the run with all other machines' events deleted
  pub purge : (s : State) (xs : List Event) → Good p s → Quiet p m xs → replies p m s xs ≡ replies p m s (only p m xs)
  purge s xs g q = purge_from xs q s s g g (alike_self m s)
