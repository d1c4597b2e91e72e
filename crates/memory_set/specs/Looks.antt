-- What is answered of the set at `at` in the words z, whatever they are: `regions_in` is the list of its regions in any words. Assumes nothing.
use Rattle.std.specs.Prelude.{◌≡◌, Bool, true, false, List, ℕ, ◌≤◌, ◌<◌, get_or, Result, Ok, Err}
use Rattle.address.specs.declared.Region.{Region}
use Rattle.address.specs.Regions.{host_of}
use Rattle.set_model.specs.Sets.{meets, starts, covers, any, none, find}
use Rattle.set_slots.specs.Slots.{regions_in, Lies, Readable, Empty, UsedOk, SetOk}
use Rattle.set_claims.specs.Claims.{BadSays}
use Rattle.set_claims.specs.declared.Bad.{Bad}
use Rattle.memory_set.specs.declared.NotMapped.{NotMapped}
use Rattle.memory_set.specs.declared.NotInOrder.{NotInOrder}

-- whether the test of the set's regions passes
abbrev pub AnswerSays : Bool → List ℕ → ℕ → ℕ → Result Bool Bad → Type 0
AnswerSays test z at slots (Ok b) = Readable z at slots × (test ≡ b)
AnswerSays test z at slots (Err why) = BadSays z at slots why

abbrev pub EmptySays : List ℕ → ℕ → ℕ → Result Bool Bad → Type 0
EmptySays z at slots = AnswerSays (none (regions_in z at slots)) z at slots

-- whether a region of the set has a guest page of r
abbrev pub OverlapsSays : List ℕ → ℕ → ℕ → Region → Result Bool Bad → Type 0
OverlapsSays z at slots r = AnswerSays (any (meets r) (regions_in z at slots)) z at slots

-- whether a region of the set starts at a guest address
abbrev pub StartsSays : List ℕ → ℕ → ℕ → ℕ → Result Bool Bad → Type 0
StartsSays z at slots guest = AnswerSays (any (starts guest) (regions_in z at slots)) z at slots

-- ---- translation

-- the host address of addr in the first region of the list that has it
abbrev pub host_in : List Region → ℕ → ℕ
host_in l addr = host_of (find (covers addr) l).guest (find (covers addr) l).host addr

-- addr stands for the host address h
pub record Reaches (z : List ℕ) (at slots addr h : ℕ) : Type 0 where
  pub readable : Readable z at slots
  pub covered : any (covers addr) (regions_in z at slots) ≡ true
  pub is : h ≡ host_in (regions_in z at slots) addr

-- the host address of a guest address
abbrev pub TranslateSays : List ℕ → ℕ → ℕ → ℕ → Result ℕ NotMapped → Type 0
TranslateSays z at slots addr (Ok h) = Reaches z at slots addr h
TranslateSays z at slots addr (Err NotMapped.NoRegion) = Readable z at slots × (any (covers addr) (regions_in z at slots) ≡ false)
TranslateSays z at slots addr (Err (NotMapped.Bad why)) = BadSays z at slots why

-- ---- order

-- slot i is right: one that the count counts holds a region in order, and another nothing
pub record SlotOk (z : List ℕ) (at i : ℕ) : Type 0 where
  pub used : i < get_or z at 0 → UsedOk z at i
  pub unused : get_or z at 0 ≤ i → Empty z at i

-- slot i is the first that is not right, and so the set is not in order
pub record FirstWrong (z : List ℕ) (at slots i : ℕ) : Type 0 where
  pub readable : Readable z at slots
  pub within : i < slots
  pub before : (j : ℕ) → j < i → SlotOk z at j
  pub fails : SlotOk z at i → ⊥
  pub broken : SetOk z at slots → ⊥

-- whether there is a set in order
abbrev pub CheckSays : List ℕ → ℕ → ℕ → Result (Unit {0}) NotInOrder → Type 0
CheckSays z at slots (Ok _) = Lies z at slots × SetOk z at slots
CheckSays z at slots (Err (NotInOrder.Bad why)) = BadSays z at slots why
CheckSays z at slots (Err (NotInOrder.Wrong i)) = FirstWrong z at slots i
