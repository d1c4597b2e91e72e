-- An example of every answer of the functions for the monitor. Assumes nothing.
use mathlib.Core.Path.{◌≡◌, refl, sym, ◌∙◌}
use mathlib.Core.List.{List}
use Prim.Native.Nat.{ℕ, ◌%◌, ◌≤◌, ◌<◌}
use native.Mathlib.Decide.{dec_lt}
use native.Mathlib.Omega.{arith}
use lib.Dec.{lit<, lit≤}
use Rattle.std.specs.Prelude.{Ok, Err}
use Rattle.base.specs.Ranges as ranges
use Rattle.bitmap_tree.specs.Tree as tree
use Rattle.bitmap_tree.specs.Tree.{cap}
use Rattle.bitmap_examples.proofs.Trees as trees
use Rattle.bitmap_examples.proofs.Trees.{nothing, taken, one, lying}
use Rattle.owners.specs.States as states
use Rattle.owners.specs.States.{State.Free, State.Reserved, State.Owned, state, HasOwner, Accounted}
use Rattle.owners.specs.Writes.{Became}
use Rattle.owners.proofs.States.{client_not_reserved}
use Rattle.owners.proofs.Writes.{kept, became, still, free_right, free_unowned, has_place}
use Rattle.owner_passes.specs.Passes as passes
use Rattle.claims.specs.declared.Unfit.{Unfit}
use Rattle.claims.specs.declared.NotChanged.{NotChanged}
use Rattle.claims.specs.Fits.{Fits}
use Rattle.claims.specs.Returns.{Range, FirstOwned, Changeable}
use Rattle.allocator_pool.specs.declared.FrameState.{FrameState}
use Rattle.allocator_pool.specs.declared.NoState.{NoState}
use Rattle.allocator_pool.specs.declared.BadClient.{BadClient}
use Rattle.allocator_pool.specs.declared.Unaccounted.{Unaccounted}
use Rattle.allocator_pool.specs.declared.NotStarted.{NotStarted}
use Rattle.allocator_pool.specs.declared.NotInserted.{NotInserted}
use Rattle.allocator_pool.specs.Looks.{OwnerSays, CountSays, CheckSays}
use Rattle.allocator_pool.specs.Changes.{InitSays, InsertSays, RemoveSays, ReleaseSays}
use Rattle.allocator_pool.proofs.Writes as writes
use Rattle.allocator_examples.proofs.Memories as memories
use Rattle.allocator_examples.proofs.Memories.{nobody, held, strange, few, nobody_of_many, high, accounted_reserved, accounted_free, accounted_owned}

-- ---- what the examples share

-- the memories of which the first frame is free, client 0's, or reserved, fit
free_fits : Fits 65536 one nobody
free_fits = memories.fits 65536 one nobody accounted_free

own_fits : Fits 65536 taken held
own_fits = memories.fits 65536 taken held accounted_owned

reserved_fits : (base : ℕ) → base % 4096 ≡ 0 → Fits base taken nobody
reserved_fits base e = memories.fits base taken nobody (accounted_reserved base e)

-- the first frame alone, as a range
first_range : (base : ℕ) (t o : List ℕ) → Fits base t o → 1 ≤ cap t → Range base t o 0 1
first_range base t o f l = record { fits = f; some = lit< tt; within = l }

-- nobody owns it where it is reserved, or free
reserved_changeable : (base : ℕ) → base % 4096 ≡ 0 → Changeable base taken nobody 0 1
reserved_changeable base e =
    record {
      range = first_range base taken nobody (reserved_fits base e) (lit≤ tt);
      unowned = λ k l h x. client_not_reserved x.client (sym x.is ∙ memories.all_reserved k);
    }

free_changeable : Changeable 65536 one nobody 0 1
free_changeable =
    record {
      range = first_range 65536 one nobody free_fits (lit≤ tt);
      unowned = λ k l h. let q : k ≡ 0 = omega arith in rw q (free_unowned one nobody 0 (λ e. let f = trees.first_free in omega arith));
    }

-- client 0 owns it, and no frame is before it
first_owned : FirstOwned 65536 taken held 0 1 0
first_owned =
    record {
      range = first_range 65536 taken held own_fits (lit≤ tt);
      stops = record { low = lit≤ tt; high = lit≤ tt; before = λ k p q. absurd (omega arith); fails = λ _ n. n owner };
      before = lit< tt;
      owned = owner;
    }
  where
    owner : HasOwner taken held 0
    owner = record { client = 0; is = memories.first_owned }

-- ---- owner

pub owner_free : OwnerSays 65536 one nobody 0 (Ok FrameState.Free)
owner_free = record { fits = free_fits; within = lit< tt; is = memories.first_free }

pub owner_reserved : OwnerSays 65536 one nobody 1 (Ok FrameState.Reserved)
owner_reserved = record { fits = free_fits; within = lit< tt; is = memories.behind_free 1 (lit< tt) }

pub owner_client : OwnerSays 65536 taken held 0 (Ok (FrameState.Client 0))
owner_client = record { fits = own_fits; within = lit< tt; is = memories.first_owned }

pub owner_outside : OwnerSays 65536 one nobody 16 (Err NoState.Outside)
owner_outside = (free_fits, lit≤ tt)

pub owner_unfit_not_full : OwnerSays 65536 nothing nobody 0 (Err (NoState.Unfit Unfit.NotFull))
owner_unfit_not_full = memories.not_full_lem

pub owner_unfit_unmatched : OwnerSays 65536 one few 0 (Err (NoState.Unfit Unfit.Unmatched))
owner_unfit_unmatched = memories.unmatched

pub owner_unfit_bad_base : OwnerSays 1 one nobody 0 (Err (NoState.Unfit Unfit.BadBase))
owner_unfit_bad_base = memories.bad_base_lem

-- ---- owned_count

pub owned_count_ok : CountSays 65536 taken held 0 (Ok 1)
unfolding ranges.how_many states.state tree.node_bit
owned_count_ok = (memories.known 65536 taken held 0 accounted_owned (lit< tt), refl)

pub owned_count_no_client : CountSays 65536 taken held 64 (Err BadClient.NoClient)
owned_count_no_client = (own_fits, lit≤ tt)

pub owned_count_unfit_not_full : CountSays 65536 nothing nobody 0 (Err (BadClient.Unfit Unfit.NotFull))
owned_count_unfit_not_full = memories.not_full_lem

pub owned_count_unfit_unmatched : CountSays 65536 one few 0 (Err (BadClient.Unfit Unfit.Unmatched))
owned_count_unfit_unmatched = memories.unmatched

pub owned_count_unfit_bad_base : CountSays 1 one nobody 0 (Err (BadClient.Unfit Unfit.BadBase))
owned_count_unfit_bad_base = memories.bad_base_lem

-- ---- check

pub check_ok : CheckSays 65536 taken held (Ok tt)
check_ok = accounted_owned

pub check_lie : CheckSays 65536 lying nobody_of_many (Err (Unaccounted.Lie 0))
check_lie = (memories.fits_lying, memories.lowest_lie)

pub check_wrong : CheckSays 65536 taken strange (Err (Unaccounted.Wrong 0))
check_wrong =
    record {
      fits = memories.fits_strange;
      agree = trees.agree 0;
      within = lit< tt;
      stops = record { low = lit≤ tt; high = lit≤ tt; before = λ k p q. absurd (omega arith); fails = λ _. memories.wrong };
    }

pub check_unfit_not_full : CheckSays 65536 nothing nobody (Err (Unaccounted.Unfit Unfit.NotFull))
check_unfit_not_full = memories.not_full_lem

pub check_unfit_unmatched : CheckSays 65536 one few (Err (Unaccounted.Unfit Unfit.Unmatched))
check_unfit_unmatched = memories.unmatched

pub check_unfit_bad_base : CheckSays 1 one nobody (Err (Unaccounted.Unfit Unfit.BadBase))
check_unfit_bad_base = memories.bad_base_lem

-- ---- init

-- one frame is to be free, whoever owned it
pub init_ok : InitSays 65536 taken held 1 one nobody (Ok tt)
init_ok = record { fits = own_fits; begun = begun; accounted = accounted_free }
  where
    begun : passes.Begun taken held 1 one nobody
    begun =
        record {
          free = λ k l. let q : k ≡ 0 = omega arith in rw q memories.first_free;
          reserved = λ k l. memories.behind_free k (omega arith);
          words = refl;
          bytes = refl;
          accounted = λ base e h. still taken nobody 0 1 1 255 one nobody memories.opened base (accounted_reserved base e) (λ k _ l. free_right base k (omega arith));
        }

-- seventeen frames of sixteen
pub init_too_many : InitSays 65536 taken held 17 taken held (Err NotStarted.TooMany)
init_too_many = (kept _ _, own_fits, lit< tt)

pub init_too_high : InitSays high taken nobody 1 taken nobody (Err NotStarted.TooHigh)
init_too_high = (kept _ _, reserved_fits high refl, lit≤ tt, lit≤ tt)

pub init_unfit_not_full : InitSays 65536 nothing nobody 1 nothing nobody (Err (NotStarted.Unfit Unfit.NotFull))
init_unfit_not_full = (kept _ _, memories.not_full_lem)

pub init_unfit_unmatched : InitSays 65536 one few 1 one few (Err (NotStarted.Unfit Unfit.Unmatched))
init_unfit_unmatched = (kept _ _, memories.unmatched)

pub init_unfit_bad_base : InitSays 1 one nobody 1 one nobody (Err (NotStarted.Unfit Unfit.BadBase))
init_unfit_bad_base = (kept _ _, memories.bad_base_lem)

-- ---- insert

pub insert_ok : InsertSays 65536 taken nobody 0 1 one nobody (Ok tt)
insert_ok = writes.opened 65536 taken nobody 0 1 one nobody (reserved_changeable 65536 refl) (lit< tt) memories.opened

pub insert_too_high : InsertSays high taken nobody 0 1 taken nobody (Err NotInserted.TooHigh)
insert_too_high = (kept _ _, reserved_changeable high refl, lit≤ tt)

pub insert_no_unfit_not_full : InsertSays 65536 nothing nobody 0 1 nothing nobody (Err (NotInserted.No (NotChanged.Unfit Unfit.NotFull)))
insert_no_unfit_not_full = (kept _ _, memories.not_full_lem)

pub insert_no_unfit_unmatched : InsertSays 65536 one few 0 1 one few (Err (NotInserted.No (NotChanged.Unfit Unfit.Unmatched)))
insert_no_unfit_unmatched = (kept _ _, memories.unmatched)

pub insert_no_unfit_bad_base : InsertSays 1 one nobody 0 1 one nobody (Err (NotInserted.No (NotChanged.Unfit Unfit.BadBase)))
insert_no_unfit_bad_base = (kept _ _, memories.bad_base_lem)

pub insert_no_empty : InsertSays 65536 one nobody 5 5 one nobody (Err (NotInserted.No NotChanged.Empty))
insert_no_empty = (kept _ _, (free_fits, refl))

pub insert_no_reversed : InsertSays 65536 one nobody 6 5 one nobody (Err (NotInserted.No NotChanged.Reversed))
insert_no_reversed = (kept _ _, (free_fits, lit< tt))

pub insert_no_outside : InsertSays 65536 one nobody 0 17 one nobody (Err (NotInserted.No NotChanged.Outside))
insert_no_outside = (kept _ _, (free_fits, lit< tt, lit< tt))

pub insert_no_taken : InsertSays 65536 taken held 0 1 taken held (Err (NotInserted.No (NotChanged.Taken 0)))
insert_no_taken = (kept _ _, first_owned)

-- ---- remove

pub remove_ok : RemoveSays 65536 one nobody 0 1 taken nobody (Ok tt)
remove_ok = writes.closed 65536 one nobody 0 1 taken nobody free_changeable memories.closed

pub remove_unfit_not_full : RemoveSays 65536 nothing nobody 0 1 nothing nobody (Err (NotChanged.Unfit Unfit.NotFull))
remove_unfit_not_full = (kept _ _, memories.not_full_lem)

pub remove_unfit_unmatched : RemoveSays 65536 one few 0 1 one few (Err (NotChanged.Unfit Unfit.Unmatched))
remove_unfit_unmatched = (kept _ _, memories.unmatched)

pub remove_unfit_bad_base : RemoveSays 1 one nobody 0 1 one nobody (Err (NotChanged.Unfit Unfit.BadBase))
remove_unfit_bad_base = (kept _ _, memories.bad_base_lem)

pub remove_empty : RemoveSays 65536 one nobody 5 5 one nobody (Err NotChanged.Empty)
remove_empty = (kept _ _, (free_fits, refl))

pub remove_reversed : RemoveSays 65536 one nobody 6 5 one nobody (Err NotChanged.Reversed)
remove_reversed = (kept _ _, (free_fits, lit< tt))

pub remove_outside : RemoveSays 65536 one nobody 0 17 one nobody (Err NotChanged.Outside)
remove_outside = (kept _ _, (free_fits, lit< tt, lit< tt))

pub remove_taken : RemoveSays 65536 taken held 0 1 taken held (Err (NotChanged.Taken 0))
remove_taken = (kept _ _, first_owned)

-- ---- release_all

pub release_all_ok : ReleaseSays 65536 taken held 0 one nobody (Ok tt)
release_all_ok = (memories.known 65536 taken held 0 accounted_owned (lit< tt), released)
  where
    now : Became taken held 0 1 Free one nobody
    now = became taken held 0 1 1 255 one nobody memories.given_back Free refl

    first : (k : ℕ) → state taken held k ≡ Owned 0 → k < 1
    first k e = go (dec_lt k 1)
      where
        go : Dec (k < 1) → k < 1
        go (yes l) = l
        go (no n) = absurd (client_not_reserved 0 (sym e ∙ memories.behind_owned k (omega (arith, n))))

    other : (k : ℕ) → (state taken held k ≡ Owned 0 → ⊥) → 0 ≤ k → k < 1 → ⊥
    other k n l h = let q : k ≡ 0 = omega arith in n (rw q memories.first_owned)

    placed : (base : ℕ) → Accounted base taken held → (k : ℕ) → k < 1 → states.Placed base k
    placed base a k l =
        let q : k ≡ 0 = omega arith in rw q (has_place base taken held 0 (Owned 0) a (lit< tt) memories.first_owned (client_not_reserved 0))

    released : passes.Released taken held 0 one nobody
    released =
        record {
          freed = λ k e. now.inside k (omega arith) (first k e);
          others = λ k n. now.others k (other k n);
          words = refl;
          bytes = refl;
          accounted = λ base a. still taken held 0 1 1 255 one nobody memories.given_back base a (λ k _ l. free_right base k (placed base a k l));
        }

pub release_all_no_client : ReleaseSays 65536 taken held 64 taken held (Err BadClient.NoClient)
release_all_no_client = (kept _ _, own_fits, lit≤ tt)

pub release_all_unfit_not_full : ReleaseSays 65536 nothing nobody 0 nothing nobody (Err (BadClient.Unfit Unfit.NotFull))
release_all_unfit_not_full = (kept _ _, memories.not_full_lem)

pub release_all_unfit_unmatched : ReleaseSays 65536 one few 0 one few (Err (BadClient.Unfit Unfit.Unmatched))
release_all_unfit_unmatched = (kept _ _, memories.unmatched)

pub release_all_unfit_bad_base : ReleaseSays 1 one nobody 0 one nobody (Err (BadClient.Unfit Unfit.BadBase))
release_all_unfit_bad_base = (kept _ _, memories.bad_base_lem)
