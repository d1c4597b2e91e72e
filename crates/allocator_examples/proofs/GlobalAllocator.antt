-- An example of every answer of the functions for clients. Assumes nothing.
use mathlib.Core.Path.{◌≡◌, refl, sym, ◌∙◌}
use mathlib.Core.List.{List}
use Prim.Native.Nat.{ℕ, ◌+◌, ◌≤◌}
use native.Mathlib.Omega.{arith}
use lib.Dec.{lit<, lit≤}
use Rattle.std.specs.Prelude.{Ok, Err}
use Rattle.bitmap_tree.specs.Tree.{cap}
use Rattle.bitmap_examples.proofs.Trees as trees
use Rattle.bitmap_examples.proofs.Trees.{nothing, taken, one, lying}
use Rattle.owners.specs.States.{State.Free, State.Owned, state}
use Rattle.owners.proofs.States.{state_told, not_reserved}
use Rattle.owners.proofs.Writes.{kept}
use Rattle.claims.specs.declared.Unfit.{Unfit}
use Rattle.claims.specs.declared.NoFrame.{NoFrame}
use Rattle.claims.specs.declared.NoRun.{NoRun}
use Rattle.claims.specs.declared.NotFreed.{NotFreed}
use Rattle.claims.specs.declared.NotFreed.TheVariants as notFreed
use Rattle.claims.specs.declared.RunNotFreed.{RunNotFreed}
use Rattle.claims.specs.declared.RunNotFreed.TheVariants as runNotFreed
use Rattle.claims.specs.Offers.{Known}
use Rattle.claims.specs.Returns.{Between, NotMine, FirstOther, Mine, RunMine}
use Rattle.global_allocator.specs.declared.NoFid.{NoFid}
use Rattle.global_allocator.specs.declared.NoFid.TheVariants as noFid
use Rattle.global_allocator.specs.declared.NoPaddr.{NoPaddr}
use Rattle.global_allocator.specs.Addresses.{FidSays, PaddrSays}
use Rattle.global_allocator.specs.Changes.{AllocSays, RunSays, DeallocSays, DeallocRunSays}
use Rattle.global_allocator.proofs.Writes.{gave, gave_run, freed, run_freed}
use Rattle.allocator_examples.proofs.Memories as memories
use Rattle.allocator_examples.proofs.Memories.{nobody, held, few, nobody_of_many, high, accounted_free, accounted_owned}

-- ---- what the examples share

-- client 0 asks where the first frame is free, where it is its own, and where the root lies; client 6 where the frame is client 0's
free_known : Known 65536 one nobody 0
free_known = memories.known 65536 one nobody 0 accounted_free (lit< tt)

own_known : Known 65536 taken held 0
own_known = memories.known 65536 taken held 0 accounted_owned (lit< tt)

lying_known : Known 65536 lying nobody_of_many 0
lying_known = record { fits = memories.fits_lying; client = lit< tt }

other_known : Known 65536 taken held 6
other_known = memories.known 65536 taken held 6 accounted_owned (lit< tt)

-- no frame is at 65537
between : Between 65536 65537
between = record { above = lit≤ tt; none = λ k e. omega (arith, e) }

-- client 0's frame is not client 6's
not_mine : NotMine taken held 6 0
not_mine =
    record {
      within = lit< tt;
      taken = λ e. let q = state_told taken held 0 (Owned 0) memories.first_owned in q.0 (state_told taken held 0 Free e);
      other = λ e. let q = (state_told taken held 0 (Owned 6) e).1 in omega (arith, q);
    }

-- the first frame is client 0's, alone and as a run
pub mine : Mine 65536 taken held 0 65536 0
mine = record { known = own_known; place = refl; within = lit< tt; owned = memories.first_owned }

pub run_mine : RunMine 65536 taken held 0 65536 1 0
run_mine =
    record {
      known = own_known;
      some = lit< tt;
      place = refl;
      within = lit≤ tt;
      owned = λ m l h. let q : m ≡ 0 = omega arith in rw q memories.first_owned;
    }

-- a run of one frame, the first, that is not the client's
first_other_lem : (t o : List ℕ) (c : ℕ) → 0 + 1 ≤ cap t → (state t o 0 ≡ Owned c → ⊥) → FirstOther t o c 1 0 0
first_other_lem t o c l n =
    record {
      some = lit< tt;
      fits = l;
      before = lit< tt;
      stops = record { low = lit≤ tt; high = lit≤ tt; before = λ k p q. absurd (omega arith); fails = λ _. n };
    }

-- ---- paddr_to_fid

pub paddr_to_fid_ok : FidSays 65536 73728 (Ok 2)
paddr_to_fid_ok = (refl, refl)

pub paddr_to_fid_bad_base : FidSays 1 73728 (Err NoFid.BadBase)
paddr_to_fid_bad_base = (memories.bad_base_lem).1

pub paddr_to_fid_below : FidSays 65536 0 (Err noFid.Below)
paddr_to_fid_below = (refl, lit< tt)

pub paddr_to_fid_not_at_frame : FidSays 65536 65537 (Err NoFid.NotAtFrame)
paddr_to_fid_not_at_frame = (refl, between)

-- ---- fid_to_paddr

pub fid_to_paddr_ok : PaddrSays 65536 2 (Ok 73728)
fid_to_paddr_ok = (refl, refl)

pub fid_to_paddr_bad_base : PaddrSays 1 2 (Err NoPaddr.BadBase)
fid_to_paddr_bad_base = (memories.bad_base_lem).1

pub fid_to_paddr_too_high : PaddrSays high 1 (Err NoPaddr.TooHigh)
fid_to_paddr_too_high = (refl, lit≤ tt)

-- ---- alloc

pub alloc_ok : AllocSays 65536 one nobody 0 taken held (Ok 65536)
alloc_ok =
    gave 65536 one nobody 0 taken held 0
    (record { known = free_known; within = lit< tt; free = memories.first_free; placed = lit< tt; lowest = λ a m l e. absurd (omega arith) })
    memories.given

pub alloc_unfit_not_full : AllocSays 65536 nothing nobody 0 nothing nobody (Err (NoFrame.Unfit Unfit.NotFull))
alloc_unfit_not_full = (kept _ _, memories.not_full_lem)

pub alloc_unfit_unmatched : AllocSays 65536 one few 0 one few (Err (NoFrame.Unfit Unfit.Unmatched))
alloc_unfit_unmatched = (kept _ _, memories.unmatched)

pub alloc_unfit_bad_base : AllocSays 1 one nobody 0 one nobody (Err (NoFrame.Unfit Unfit.BadBase))
alloc_unfit_bad_base = (kept _ _, memories.bad_base_lem)

pub alloc_no_client : AllocSays 65536 one nobody 64 one nobody (Err NoFrame.NoClient)
alloc_no_client = (kept _ _, (free_known.fits, lit≤ tt))

-- the only frame that is not reserved is client 0's
pub alloc_no_room : AllocSays 65536 taken held 0 taken held (Err NoFrame.NoRoom)
alloc_no_room = (kept _ _, (own_known, refl, λ a m e. let s = state_told taken held m Free e in let z = trees.none_free m in omega arith))

pub alloc_corrupt : AllocSays 65536 lying nobody_of_many 0 lying nobody_of_many (Err NoFrame.Corrupt)
alloc_corrupt = (kept _ _, (lying_known, memories.corrupt))

-- ---- alloc_contiguous

-- one frame at a multiple of eight
pub alloc_contiguous_ok : RunSays 65536 one nobody 0 1 3 taken held (Ok 65536)
alloc_contiguous_ok =
    gave_run 65536 one nobody 0 taken held 1 3 0
    (record {
      known = free_known;
      some = lit< tt;
      run = record { fits = lit≤ tt; aligned = refl; free = λ m l h. let q : m ≡ 0 = omega arith in rw q memories.first_free };
      placed = lit< tt;
      lowest = λ a x r. omega arith;
    })
    memories.given

pub alloc_contiguous_unfit_not_full : RunSays 65536 nothing nobody 0 1 0 nothing nobody (Err (NoRun.Unfit Unfit.NotFull))
alloc_contiguous_unfit_not_full = (kept _ _, memories.not_full_lem)

pub alloc_contiguous_unfit_unmatched : RunSays 65536 one few 0 1 0 one few (Err (NoRun.Unfit Unfit.Unmatched))
alloc_contiguous_unfit_unmatched = (kept _ _, memories.unmatched)

pub alloc_contiguous_unfit_bad_base : RunSays 1 one nobody 0 1 0 one nobody (Err (NoRun.Unfit Unfit.BadBase))
alloc_contiguous_unfit_bad_base = (kept _ _, memories.bad_base_lem)

pub alloc_contiguous_no_client : RunSays 65536 one nobody 64 1 0 one nobody (Err NoRun.NoClient)
alloc_contiguous_no_client = (kept _ _, (free_known.fits, lit≤ tt))

pub alloc_contiguous_empty : RunSays 65536 one nobody 0 0 0 one nobody (Err NoRun.Empty)
alloc_contiguous_empty = (kept _ _, (free_known, refl))

-- two frames, where one is free
pub alloc_contiguous_no_room : RunSays 65536 one nobody 0 2 0 one nobody (Err NoRun.NoRoom)
alloc_contiguous_no_room =
    (kept _ _, (free_known, lit< tt, λ a x r. not_reserved (sym (r.free (x + 1) (omega arith) (omega arith)) ∙ memories.behind_free (x + 1) (omega arith))))

pub alloc_contiguous_corrupt : RunSays 65536 lying nobody_of_many 0 1 0 lying nobody_of_many (Err NoRun.Corrupt)
alloc_contiguous_corrupt = (kept _ _, (lying_known, lit< tt, memories.corrupt))

-- ---- dealloc

pub dealloc_ok : DeallocSays 65536 taken held 0 65536 one nobody (Ok tt)
dealloc_ok = freed 65536 taken held 0 one nobody 65536 0 mine memories.given_back

pub dealloc_unfit_not_full : DeallocSays 65536 nothing nobody 0 65536 nothing nobody (Err (NotFreed.Unfit Unfit.NotFull))
dealloc_unfit_not_full = (kept _ _, memories.not_full_lem)

pub dealloc_unfit_unmatched : DeallocSays 65536 one few 0 65536 one few (Err (NotFreed.Unfit Unfit.Unmatched))
dealloc_unfit_unmatched = (kept _ _, memories.unmatched)

pub dealloc_unfit_bad_base : DeallocSays 1 one nobody 0 1 one nobody (Err (NotFreed.Unfit Unfit.BadBase))
dealloc_unfit_bad_base = (kept _ _, memories.bad_base_lem)

pub dealloc_no_client : DeallocSays 65536 taken held 64 65536 taken held (Err NotFreed.NoClient)
dealloc_no_client = (kept _ _, (own_known.fits, lit≤ tt))

pub dealloc_below : DeallocSays 65536 taken held 0 0 taken held (Err notFreed.Below)
dealloc_below = (kept _ _, (own_known, lit< tt))

pub dealloc_not_at_frame : DeallocSays 65536 taken held 0 65537 taken held (Err NotFreed.NotAtFrame)
dealloc_not_at_frame = (kept _ _, (own_known, between))

-- the seventeenth frame of sixteen
pub dealloc_outside : DeallocSays 65536 taken held 0 131072 taken held (Err NotFreed.Outside)
dealloc_outside = (kept _ _, record { known = own_known; frame = 16; place = refl; is = lit≤ tt })

pub dealloc_not_taken : DeallocSays 65536 one nobody 0 65536 one nobody (Err NotFreed.NotTaken)
dealloc_not_taken = (kept _ _, record { known = free_known; frame = 0; place = refl; is = memories.first_free })

pub dealloc_not_yours : DeallocSays 65536 taken held 6 65536 taken held (Err NotFreed.NotYours)
dealloc_not_yours = (kept _ _, record { known = other_known; frame = 0; place = refl; is = not_mine })

-- ---- dealloc_contiguous

pub dealloc_contiguous_ok : DeallocRunSays 65536 taken held 0 65536 1 one nobody (Ok tt)
dealloc_contiguous_ok = run_freed 65536 taken held 0 one nobody 65536 1 0 run_mine memories.given_back

pub dealloc_contiguous_unfit_not_full : DeallocRunSays 65536 nothing nobody 0 65536 1 nothing nobody (Err (RunNotFreed.Unfit Unfit.NotFull))
dealloc_contiguous_unfit_not_full = (kept _ _, memories.not_full_lem)

pub dealloc_contiguous_unfit_unmatched : DeallocRunSays 65536 one few 0 65536 1 one few (Err (RunNotFreed.Unfit Unfit.Unmatched))
dealloc_contiguous_unfit_unmatched = (kept _ _, memories.unmatched)

pub dealloc_contiguous_unfit_bad_base : DeallocRunSays 1 one nobody 0 1 1 one nobody (Err (RunNotFreed.Unfit Unfit.BadBase))
dealloc_contiguous_unfit_bad_base = (kept _ _, memories.bad_base_lem)

pub dealloc_contiguous_no_client : DeallocRunSays 65536 taken held 64 65536 1 taken held (Err RunNotFreed.NoClient)
dealloc_contiguous_no_client = (kept _ _, (own_known.fits, lit≤ tt))

pub dealloc_contiguous_below : DeallocRunSays 65536 taken held 0 0 1 taken held (Err runNotFreed.Below)
dealloc_contiguous_below = (kept _ _, (own_known, lit< tt))

pub dealloc_contiguous_not_at_frame : DeallocRunSays 65536 taken held 0 65537 1 taken held (Err RunNotFreed.NotAtFrame)
dealloc_contiguous_not_at_frame = (kept _ _, (own_known, between))

pub dealloc_contiguous_empty : DeallocRunSays 65536 taken held 0 65536 0 taken held (Err RunNotFreed.Empty)
dealloc_contiguous_empty = (kept _ _, record { known = own_known; frame = 0; place = refl; is = refl })

-- seventeen frames of sixteen
pub dealloc_contiguous_outside : DeallocRunSays 65536 taken held 0 65536 17 taken held (Err RunNotFreed.Outside)
dealloc_contiguous_outside = (kept _ _, record { known = own_known; frame = 0; place = refl; is = (lit< tt, lit< tt) })

pub dealloc_contiguous_not_taken : DeallocRunSays 65536 one nobody 0 65536 1 one nobody (Err (RunNotFreed.NotTaken 0))
dealloc_contiguous_not_taken = (
  kept _ _,
  record {
    known = free_known;
    frame = 0;
    place = refl;
    is = (first_other_lem one nobody 0 (lit≤ tt) not_owned, memories.first_free);
  },
)
  where
    not_owned : state one nobody 0 ≡ Owned 0 → ⊥
    not_owned e = (state_told one nobody 0 (Owned 0) e).0 (state_told one nobody 0 Free memories.first_free)

pub dealloc_contiguous_not_yours : DeallocRunSays 65536 taken held 6 65536 1 taken held (Err (RunNotFreed.NotYours 0))
dealloc_contiguous_not_yours =
    (kept _ _, record { known = other_known; frame = 0; place = refl; is = (first_other_lem taken held 6 (lit≤ tt) not_mine.other, not_mine) })
