-- An example of every answer of the functions for frames. Assumes nothing.
use mathlib.Core.Path.{◌≡◌, refl, sym, ◌∙◌}
use mathlib.Core.Bool.{true}
use mathlib.Core.List.{List, [], ◌∷◌}
use Prim.Native.Nat.{ℕ, ◌+◌, ◌-◌, ◌/◌, ◌%◌}
use native.Mathlib.Omega.{arith}
use lib.Dec.{lit<, lit≤, ltb, eqb}
use Rattle.base.specs.Choices.{lowest}
use Rattle.base.proofs.Choices.{never, by}
use Rattle.machine.specs.declared.Request.TheVariants.{Alloc, AllocContiguous, Dealloc, DeallocContiguous}
use Rattle.machine.specs.declared.Reason.TheVariants.{NoMachine, NotPresent, NoRoom, NoFrames, Below, NotAtFrame, Outside, NotTaken, NotYours}
use Rattle.machine.specs.declared.Answer.{Answer}
use Rattle.machine.specs.declared.Answer.TheVariants.{Done, Address, No}
use Rattle.machine.specs.State.{Plan, State, out, refuse, is_free, address_of}
use Rattle.machine.specs.Step.{fits, first_other, gives}
use Rattle.hv_state.specs.Memory.{Mem, plan_of, decode, Sound}
use Rattle.hv_state.specs.Serving.{Served, mem}
use Rattle.hv_asker.specs.Asking.{IsClient}
use Rattle.hv_frames.proofs.Laws as laws
use Rattle.claims.specs.declared.NoFrame.{NoFrame}
use Rattle.claims.specs.declared.NoRun.{NoRun}
use Rattle.claims.specs.declared.NotFreed.{NotFreed}
use Rattle.claims.specs.declared.NotFreed.TheVariants as notFreed
use Rattle.claims.specs.declared.RunNotFreed.{RunNotFreed}
use Rattle.claims.specs.declared.RunNotFreed.TheVariants as runNotFreed
use Rattle.claims.specs.Returns.{NotMine, FirstOther}
use Rattle.owners.proofs.States.{not_reserved, client_not_reserved}
use Rattle.contents.proofs.Cleaning.{kept_all}
use Rattle.bitmap_examples.proofs.Trees.{one, taken}
use Rattle.allocator_examples.proofs.Memories.{nobody, held, first_owned, behind_owned}
use Rattle.allocator_examples.proofs.GlobalAllocator.{mine}
use Rattle.frames_examples.proofs.Words.{zeros, dirty, dirty_backed}
use Rattle.frames_examples.proofs.Frames as frames
use Rattle.config_examples.proofs.Truck.{table}
use Rattle.machine_examples.proofs.Memories.{away, there, client, is_client, no_machine_lem, not_there, no_memories}
use Rattle.machine_examples.proofs.Only.{OneOf, Gives, at_first, at_next, asked, served}

-- ---- the memories: machine 7 is there, and the first frame is free; or it is the machine's, who wrote to it

abbrev pub idle : Mem
idle = mem table there one nobody zeros

abbrev pub busy : Mem
busy = mem table there taken held dirty

asks : IsClient table there 7 client
asks = is_client there refl refl

-- the second frame is reserved
not_mine : NotMine taken held 0 1
not_mine =
    record {
      within = lit< tt;
      taken = λ e. not_reserved (sym e ∙ behind_owned 1 (lit< tt));
      other = λ e. client_not_reserved 0 (sym e ∙ behind_owned 1 (lit< tt));
    }

-- and the first of two that is not the machine's
first_other_lem : FirstOther taken held 0 2 0 1
first_other_lem =
    record {
      some = lit< tt;
      fits = lit≤ tt;
      before = lit< tt;
      stops = record { low = lit≤ tt; high = lit≤ tt; before = λ k l h. let q : k ≡ 0 = omega arith in rw q first_owned; fails = λ l. not_mine.other };
    }

-- ---- alloc

pub alloc_only : (b : Mem) (number : ℕ) (b' : Mem) (a : Answer) → Sound b → Served b number Alloc b' a
    → OneOf a (Address 0 ∷ No NoMachine ∷ No NotPresent ∷ No NoRoom ∷ [])
alloc_only b number b' a s v =
    served b number Alloc b' a s v
    (asked (plan_of b) (decode b) number Alloc (at_next (at_first refl))
    (λ m. by (Gives _) (ltb (lowest (fits (plan_of b) (decode b) 1 0) (plan_of b).frames) (plan_of b).frames) _ _ (λ e. at_first refl) (λ e. at_next (at_next (at_next (at_first refl)))))
    (λ m. at_next (at_next (at_first refl))))

pub alloc_address : Served idle 7 Alloc (mem table there taken held zeros) (Address 65536)
alloc_address = laws.alloc_at table there one nobody zeros 7 client asks 65536 taken held frames.alloc_ok

pub alloc_no_no_room : Served busy 7 Alloc busy (No NoRoom)
alloc_no_no_room = laws.alloc_no table there taken held dirty 7 client asks NoFrame.NoRoom taken held (No NoRoom) frames.alloc_no_no_room refl

pub alloc_no_no_machine : Served idle 8 Alloc idle (No NoMachine)
alloc_no_no_machine = no_machine_lem there one nobody zeros Alloc (λ s m. refl)

pub alloc_no_not_present : Served (mem table away one nobody zeros) 7 Alloc (mem table away one nobody zeros) (No NotPresent)
alloc_no_not_present = not_there one nobody zeros Alloc (λ s m. refl)

pub alloc_corrupt : Served (mem [] [] one nobody zeros) 7 Alloc (mem [] [] one nobody zeros) Answer.Corrupt
alloc_corrupt = no_memories one nobody zeros Alloc

-- ---- alloc_contiguous

pub alloc_contiguous_only : (b : Mem) (number n al : ℕ) (b' : Mem) (a : Answer) → Sound b → Served b number (AllocContiguous n al) b' a
    → OneOf a (Address 0 ∷ No NoMachine ∷ No NotPresent ∷ No NoRoom ∷ No NoFrames ∷ [])
alloc_contiguous_only b number n al b' a s v =
    served b number (AllocContiguous n al) b' a s v
    (asked (plan_of b) (decode b) number (AllocContiguous n al) (at_next (at_first refl))
    (λ m. by (Gives _) (eqb n 0) _ _ (λ e. at_next (at_next (at_next (at_next (at_first refl)))))
    (λ e. by (Gives _) (ltb (lowest (fits (plan_of b) (decode b) n al) (plan_of b).frames) (plan_of b).frames) _ _ (λ f. at_first refl) (λ f. at_next (at_next (at_next (at_first refl))))))
    (λ m. at_next (at_next (at_first refl))))

pub alloc_contiguous_address : Served idle 7 (AllocContiguous 1 3) (mem table there taken held zeros) (Address 65536)
alloc_contiguous_address = laws.run_at table there one nobody zeros 7 client asks 1 3 65536 taken held frames.alloc_contiguous_ok

pub alloc_contiguous_no_no_frames : Served idle 7 (AllocContiguous 0 0) idle (No NoFrames)
alloc_contiguous_no_no_frames = laws.run_no table there one nobody zeros 7 client asks 0 0 NoRun.Empty one nobody (No NoFrames) frames.alloc_contiguous_no_empty refl

pub alloc_contiguous_no_no_room : Served idle 7 (AllocContiguous 2 0) idle (No NoRoom)
alloc_contiguous_no_no_room = laws.run_no table there one nobody zeros 7 client asks 2 0 NoRun.NoRoom one nobody (No NoRoom) frames.alloc_contiguous_no_no_room refl

pub alloc_contiguous_no_no_machine : Served idle 8 (AllocContiguous 1 3) idle (No NoMachine)
alloc_contiguous_no_no_machine = no_machine_lem there one nobody zeros (AllocContiguous 1 3) (λ s m. refl)

pub alloc_contiguous_no_not_present : Served (mem table away one nobody zeros) 7 (AllocContiguous 1 3) (mem table away one nobody zeros) (No NotPresent)
alloc_contiguous_no_not_present = not_there one nobody zeros (AllocContiguous 1 3) (λ s m. refl)

pub alloc_contiguous_corrupt : Served (mem [] [] one nobody zeros) 7 (AllocContiguous 1 3) (mem [] [] one nobody zeros) Answer.Corrupt
alloc_contiguous_corrupt = no_memories one nobody zeros (AllocContiguous 1 3)

-- ---- dealloc

-- what is answered to a machine that gives frames back
back : {l : List Answer} (p : Plan) (s : State) (m addr n : ℕ) → Gives l (refuse Below s) → Gives l (refuse NotAtFrame s) → Gives l (refuse Outside s)
    → Gives l (refuse NotTaken s) → Gives l (refuse NotYours s) → (eqb n 0 ≡ true → Gives l (refuse NoFrames s)) → ((s' : State) → Gives l (out Done s')) → Gives l (gives p s m addr n)
back p s m addr n below apart outside free others none done =
    let k = (addr - address_of p 0) / 4096 in
    let first = first_other s.frame m k n in
    by (Gives _) (ltb addr (address_of p 0)) _ _ (λ e. below)
    (λ e. by (Gives _) (eqb ((addr - address_of p 0) % 4096) 0) _ _
    (λ f. by (Gives _) (eqb n 0) _ _ none
    (λ g. by (Gives _) (ltb p.frames (k + n)) _ _ (λ h. outside)
    (λ h. by (Gives _) (ltb first (k + n)) _ _ (λ i. by (Gives _) (is_free (s.frame first)) _ _ (λ j. free) (λ j. others)) (λ i. done _))))
    (λ f. apart))

pub dealloc_only : (b : Mem) (number addr : ℕ) (b' : Mem) (a : Answer) → Sound b → Served b number (Dealloc addr) b' a
    → OneOf a (Done ∷ No NoMachine ∷ No NotPresent ∷ No Below ∷ No NotAtFrame ∷ No Outside ∷ No NotTaken ∷ No NotYours ∷ [])
dealloc_only b number addr b' a s v =
    served b number (Dealloc addr) b' a s v
    (asked (plan_of b) (decode b) number (Dealloc addr) (at_next (at_first refl))
    (λ m. back (plan_of b) (decode b) m addr 1 (at_next (at_next (at_next (at_first refl)))) (at_next (at_next (at_next (at_next (at_first refl)))))
    (at_next (at_next (at_next (at_next (at_next (at_first refl)))))) (at_next (at_next (at_next (at_next (at_next (at_next (at_first refl))))))) (at_next (at_next (at_next (at_next (at_next (at_next (at_next (at_first refl)))))))) (λ e. never (sym e)) (λ x. at_first refl))
    (λ m. at_next (at_next (at_first refl))))

pub dealloc_done : Served busy 7 (Dealloc 65536) idle Done
dealloc_done = laws.dealloc_done table there taken held dirty 7 client asks 65536 one nobody zeros frames.dealloc_ok

pub dealloc_no_below : Served busy 7 (Dealloc 0) busy (No Below)
dealloc_no_below = laws.dealloc_no table there taken held dirty 7 client asks 0 notFreed.Below taken held dirty (No Below) frames.dealloc_no_below refl

pub dealloc_no_not_at_frame : Served busy 7 (Dealloc 65537) busy (No NotAtFrame)
dealloc_no_not_at_frame = laws.dealloc_no table there taken held dirty 7 client asks 65537 NotFreed.NotAtFrame taken held dirty (No NotAtFrame) frames.dealloc_no_not_at_frame refl

pub dealloc_no_outside : Served busy 7 (Dealloc 131072) busy (No Outside)
dealloc_no_outside = laws.dealloc_no table there taken held dirty 7 client asks 131072 NotFreed.Outside taken held dirty (No Outside) frames.dealloc_no_outside refl

pub dealloc_no_not_taken : Served idle 7 (Dealloc 65536) idle (No NotTaken)
dealloc_no_not_taken = laws.dealloc_no table there one nobody zeros 7 client asks 65536 NotFreed.NotTaken one nobody zeros (No NotTaken) frames.dealloc_no_not_taken refl

-- the second frame, which is reserved
pub dealloc_no_not_yours : Served busy 7 (Dealloc 69632) busy (No NotYours)
dealloc_no_not_yours = laws.dealloc_no table there taken held dirty 7 client asks 69632 NotFreed.NotYours taken held dirty (No NotYours) (kept_all _ _ _, dirty_backed held (lit≤ tt), record { known = mine.known; frame = 1; place = refl; is = not_mine }) refl

pub dealloc_no_no_machine : Served idle 8 (Dealloc 65536) idle (No NoMachine)
dealloc_no_no_machine = no_machine_lem there one nobody zeros (Dealloc 65536) (λ s m. refl)

pub dealloc_no_not_present : Served (mem table away one nobody zeros) 7 (Dealloc 65536) (mem table away one nobody zeros) (No NotPresent)
dealloc_no_not_present = not_there one nobody zeros (Dealloc 65536) (λ s m. refl)

pub dealloc_corrupt : Served (mem [] [] one nobody zeros) 7 (Dealloc 65536) (mem [] [] one nobody zeros) Answer.Corrupt
dealloc_corrupt = no_memories one nobody zeros (Dealloc 65536)

-- ---- dealloc_contiguous

pub dealloc_contiguous_only : (b : Mem) (number addr n : ℕ) (b' : Mem) (a : Answer) → Sound b → Served b number (DeallocContiguous addr n) b' a
    → OneOf a (Done ∷ No NoMachine ∷ No NotPresent ∷ No Below ∷ No NotAtFrame ∷ No Outside ∷ No NotTaken ∷ No NotYours ∷ No NoFrames ∷ [])
dealloc_contiguous_only b number addr n b' a s v =
    served b number (DeallocContiguous addr n) b' a s v
    (asked (plan_of b) (decode b) number (DeallocContiguous addr n) (at_next (at_first refl))
    (λ m. back (plan_of b) (decode b) m addr n (at_next (at_next (at_next (at_first refl)))) (at_next (at_next (at_next (at_next (at_first refl)))))
    (at_next (at_next (at_next (at_next (at_next (at_first refl)))))) (at_next (at_next (at_next (at_next (at_next (at_next (at_first refl))))))) (at_next (at_next (at_next (at_next (at_next (at_next (at_next (at_first refl))))))))
    (λ e. at_next (at_next (at_next (at_next (at_next (at_next (at_next (at_next (at_first refl))))))))) (λ x. at_first refl))
    (λ m. at_next (at_next (at_first refl))))

pub dealloc_contiguous_done : Served busy 7 (DeallocContiguous 65536 1) idle Done
dealloc_contiguous_done = laws.dealloc_run_done table there taken held dirty 7 client asks 65536 1 one nobody zeros frames.dealloc_contiguous_ok

pub dealloc_contiguous_no_below : Served busy 7 (DeallocContiguous 0 1) busy (No Below)
dealloc_contiguous_no_below = laws.dealloc_run_no table there taken held dirty 7 client asks 0 1 runNotFreed.Below taken held dirty (No Below) frames.dealloc_contiguous_no_below refl

pub dealloc_contiguous_no_not_at_frame : Served busy 7 (DeallocContiguous 65537 1) busy (No NotAtFrame)
dealloc_contiguous_no_not_at_frame = laws.dealloc_run_no table there taken held dirty 7 client asks 65537 1 RunNotFreed.NotAtFrame taken held dirty (No NotAtFrame) frames.dealloc_contiguous_no_not_at_frame refl

pub dealloc_contiguous_no_no_frames : Served busy 7 (DeallocContiguous 65536 0) busy (No NoFrames)
dealloc_contiguous_no_no_frames = laws.dealloc_run_no table there taken held dirty 7 client asks 65536 0 RunNotFreed.Empty taken held dirty (No NoFrames) frames.dealloc_contiguous_no_empty refl

pub dealloc_contiguous_no_outside : Served busy 7 (DeallocContiguous 65536 17) busy (No Outside)
dealloc_contiguous_no_outside = laws.dealloc_run_no table there taken held dirty 7 client asks 65536 17 RunNotFreed.Outside taken held dirty (No Outside) frames.dealloc_contiguous_no_outside refl

pub dealloc_contiguous_no_not_taken : Served idle 7 (DeallocContiguous 65536 1) idle (No NotTaken)
dealloc_contiguous_no_not_taken = laws.dealloc_run_no table there one nobody zeros 7 client asks 65536 1 (RunNotFreed.NotTaken 0) one nobody zeros (No NotTaken) frames.dealloc_contiguous_no_not_taken refl

-- the first frame is the machine's, and the second is reserved
pub dealloc_contiguous_no_not_yours : Served busy 7 (DeallocContiguous 65536 2) busy (No NotYours)
dealloc_contiguous_no_not_yours = laws.dealloc_run_no table there taken held dirty 7 client asks 65536 2 (RunNotFreed.NotYours 1) taken held dirty (No NotYours) (kept_all _ _ _, dirty_backed held (lit≤ tt), record { known = mine.known; frame = 0; place = refl; is = (first_other_lem, not_mine) }) refl

pub dealloc_contiguous_no_no_machine : Served idle 8 (DeallocContiguous 65536 1) idle (No NoMachine)
dealloc_contiguous_no_no_machine = no_machine_lem there one nobody zeros (DeallocContiguous 65536 1) (λ s m. refl)

pub dealloc_contiguous_no_not_present : Served (mem table away one nobody zeros) 7 (DeallocContiguous 65536 1) (mem table away one nobody zeros) (No NotPresent)
dealloc_contiguous_no_not_present = not_there one nobody zeros (DeallocContiguous 65536 1) (λ s m. refl)

pub dealloc_contiguous_corrupt : Served (mem [] [] one nobody zeros) 7 (DeallocContiguous 65536 1) (mem [] [] one nobody zeros) Answer.Corrupt
dealloc_contiguous_corrupt = no_memories one nobody zeros (DeallocContiguous 65536 1)
