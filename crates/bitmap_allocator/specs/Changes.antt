-- What the functions that change a tree answer: t is the tree before, and t' after. Every refusal has t' ≡ t. `Changed` says that the
-- named frames and no others are as told, and that summaries that agreed still agree. Assumes nothing.
use Rattle.std.specs.Prelude.{◌≡◌, List, ℕ, ◌+◌, ◌<◌, ◌≤◌, length, get_or, Result, Ok, Err}
use Rattle.bitmap_tree.specs.Tree.{free, cap, Full, Agree}
use Rattle.bitmap_tree.specs.Writes.{Changed}
use Rattle.bitmap_search.specs.Found.{NoneFrom}
use Rattle.bitmap_runs.specs.Runs.{Run, LowestRun}
use Rattle.bitmap_search.specs.declared.Missed.{Missed}
use Rattle.bitmap_tree.specs.declared.NotFull.{NotFull}
use Rattle.bitmap_allocator.specs.declared.NotAllocated.{NotAllocated}
use Rattle.bitmap_allocator.specs.declared.RunNotTaken.{RunNotTaken}
use Rattle.bitmap_allocator.specs.declared.NotFreed.{NotFreed}
use Rattle.bitmap_allocator.specs.declared.BadRange.{BadRange}

-- every frame is taken and the summaries agree, whatever stood there
pub record Reset (t t' : List ℕ) : Type 0 where
  pub full : Full (length t)
  pub long : length t' ≡ length t
  pub taken : NoneFrom t' 0
  pub agree : Agree t'

abbrev pub ResetSays : List ℕ → List ℕ → Result Unit NotFull → Type 0
ResetSays t t' (Ok _) = Reset t t'
ResetSays t t' (Err _) = (t' ≡ t) × (Full (length t) → ⊥)

-- frame k was free and is taken; where the summaries agree it was the lowest
pub record Took (t : List ℕ) (k : ℕ) (t' : List ℕ) : Type 0 where
  pub full : Full (length t)
  pub within : k < cap t
  pub was : free t k ≡ 1
  pub lowest : Agree t → (m : ℕ) → m < k → free t m ≡ 0
  pub change : Changed t k (k + 1) 0 t'

-- nothing changed: the root is 0, and so no frame is free where the summaries agree
pub record Exhausted (t t' : List ℕ) : Type 0 where
  pub kept : t' ≡ t
  pub full : Full (length t)
  pub root : get_or t 0 0 ≡ 0
  pub none : Agree t → NoneFrom t 0

-- nothing changed: the summaries do not agree
pub record Broken (t t' : List ℕ) : Type 0 where
  pub kept : t' ≡ t
  pub full : Full (length t)
  pub lie : Agree t → ⊥

-- why a search finds nothing, as `alloc` says it
abbrev pub not_allocated : Missed → NotAllocated
not_allocated Missed.Nothing = NotAllocated.NoRoom
not_allocated Missed.Corrupt = NotAllocated.Corrupt

abbrev pub AllocSays : List ℕ → List ℕ → Result ℕ NotAllocated → Type 0
AllocSays t t' (Ok k) = Took t k t'
AllocSays t t' (Err NotAllocated.NoRoom) = Exhausted t t'
AllocSays t t' (Err NotAllocated.Corrupt) = Broken t t'
AllocSays t t' (Err NotAllocated.NotFull) = (t' ≡ t) × (Full (length t) → ⊥)

-- the size frames from base on were a run, the lowest where the summaries agree, and are taken
pub record TookRun (t : List ℕ) (size a base : ℕ) (t' : List ℕ) : Type 0 where
  pub full : Full (length t)
  pub some : 0 < size
  pub run : LowestRun t size a base
  pub change : Changed t base (base + size) 0 t'

-- nothing changed: where the summaries agree there is no such run
pub record NoRun (t : List ℕ) (size a : ℕ) (t' : List ℕ) : Type 0 where
  pub kept : t' ≡ t
  pub full : Full (length t)
  pub some : 0 < size
  pub none : Agree t → (x : ℕ) → Run t size a x → ⊥

-- the same, as `alloc_contiguous` says it
abbrev pub run_not_taken : Missed → RunNotTaken
run_not_taken Missed.Nothing = RunNotTaken.NoRoom
run_not_taken Missed.Corrupt = RunNotTaken.Corrupt

abbrev pub RunSays : List ℕ → ℕ → ℕ → List ℕ → Result ℕ RunNotTaken → Type 0
RunSays t size a t' (Ok s) = TookRun t size a s t'
RunSays t size a t' (Err RunNotTaken.NoRoom) = NoRun t size a t'
RunSays t size a t' (Err RunNotTaken.Corrupt) = Broken t t' × (0 < size)
RunSays t size a t' (Err RunNotTaken.Empty) = (t' ≡ t) × Full (length t) × (size ≡ 0)
RunSays t size a t' (Err RunNotTaken.NotFull) = (t' ≡ t) × (Full (length t) → ⊥)

-- frame k was taken and is free
pub record Gave (t : List ℕ) (k : ℕ) (t' : List ℕ) : Type 0 where
  pub full : Full (length t)
  pub within : k < cap t
  pub was : free t k ≡ 0
  pub change : Changed t k (k + 1) 1 t'

-- nothing changed: frame k is free
pub record WasFree (t : List ℕ) (k : ℕ) (t' : List ℕ) : Type 0 where
  pub kept : t' ≡ t
  pub full : Full (length t)
  pub within : k < cap t
  pub is : free t k ≡ 1

abbrev pub DeallocSays : List ℕ → ℕ → List ℕ → Result Unit NotFreed → Type 0
DeallocSays t k t' (Ok _) = Gave t k t'
DeallocSays t k t' (Err NotFreed.NotTaken) = WasFree t k t'
DeallocSays t k t' (Err NotFreed.Outside) = (t' ≡ t) × Full (length t) × (cap t ≤ k)
DeallocSays t k t' (Err NotFreed.NotFull) = (t' ≡ t) × (Full (length t) → ⊥)

-- the frames from a up to b are v, whatever they were
pub record SetRange (t : List ℕ) (a b v : ℕ) (t' : List ℕ) : Type 0 where
  pub full : Full (length t)
  pub some : a < b
  pub within : b ≤ cap t
  pub change : Changed t a b v t'

-- nothing changed: there is no frame b - 1
pub record PastEnd (t : List ℕ) (a b : ℕ) (t' : List ℕ) : Type 0 where
  pub kept : t' ≡ t
  pub full : Full (length t)
  pub some : a < b
  pub past : cap t < b

abbrev pub RangeSays : List ℕ → ℕ → ℕ → ℕ → List ℕ → Result Unit BadRange → Type 0
RangeSays t a b v t' (Ok _) = SetRange t a b v t'
RangeSays t a b v t' (Err BadRange.Empty) = (t' ≡ t) × Full (length t) × (a ≡ b)
RangeSays t a b v t' (Err BadRange.Reversed) = (t' ≡ t) × Full (length t) × (b < a)
RangeSays t a b v t' (Err BadRange.Outside) = PastEnd t a b t'
RangeSays t a b v t' (Err BadRange.NotFull) = (t' ≡ t) × (Full (length t) → ⊥)
