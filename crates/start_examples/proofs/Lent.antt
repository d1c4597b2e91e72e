-- What is lent in the examples: for the truck, and for the same truck with an allocator's region of seventeen pages, which sixteen frames are too
-- few for. Assumes nothing.
use mathlib.Core.Path.{◌≡◌, refl}
use mathlib.Core.Bool.{Bool, true}
use mathlib.Core.List.{List, [], ◌∷◌}
use Prim.Native.Nat.{ℕ, zero, suc, ◌<◌}
use native.Mathlib.Omega.{arith}
use lib.Dec.{lit<, lit≤, ltb}
use lib.ListN.{replicate}
use borrow.Author.Tests.{ltb-true}
use Rattle.base.specs.Choices.{both}
use Rattle.base.proofs.Choices.{both_left, both_right}
use Rattle.address.specs.Regions.{Valid}
use Rattle.region_words.specs.Words.{number_of}
use Rattle.config_model.specs.Config.{Config, ConfigOk, Same}
use Rattle.config_bytes.specs.Fields.{config_of, machines, count}
use Rattle.config_theorems.proofs.Round.{same_back, ok_same}
use Rattle.config_theorems.proofs.Strings.{Bytes}
use Rattle.config_examples.proofs.Pairs.{two, two_ok}
use Rattle.config_examples.proofs.Strings.{two_bytes, two_means, two_same}
use Rattle.config_examples.proofs.Truck.{first, second, first_valid, second_valid, apart, bytes, means, ok}
use Rattle.machine_examples.proofs.Memories.{away}
use Rattle.zones.specs.Layout.{slots_in}
use Rattle.hv_start.specs.Starting.{Right, Roomy}

-- ---- bytes

-- every number of the list is below 256
abbrev all_small : List ℕ → Bool
all_small [] = true
all_small (x ∷ xs) = both (ltb x 256) (all_small xs)

small : (l : List ℕ) → all_small l ≡ true → Bytes l
small [] e j = lit< tt
small (x ∷ xs) e zero = ltb-true x 256 (both_left (ltb x 256) (all_small xs) e)
small (x ∷ xs) e (suc j) = small xs (both_right (ltb x 256) (all_small xs) e) j

pub bytes_small : Bytes bytes
unfolding number_of
bytes_small = small bytes refl

-- ---- tables before the start

-- as many words as a table has
abbrev pub blank : List ℕ
blank = replicate 8325 0

-- ---- the machines' words

-- three for each of two machines, and too few
abbrev pub tight : List ℕ
tight = replicate 6 0

abbrev pub short : List ℕ
short = 0 ∷ []

-- ---- bytes that mean two machines with a region each

module _ (s : List ℕ) (pages : ℕ) (same : Same (config_of s) (two 7 9 first second 65536 pages)) where
  pub two_machines : machines s ≡ 2
  two_machines = same.machines

  pub one_region : (m : ℕ) → m < 2 → count s m ≡ 1
  one_region m l = same.count m (rw two_machines l)

  pub has_room : Roomy s away
  unfolding slots_in
  has_room = record { shaped = record { exact = rw two_machines refl }; slots = λ m l. let k = rw two_machines at l in rw (two_machines, one_region m k) (lit≤ tt) }

-- the truck's bytes, and a table to write to
pub right : Right bytes blank
right = record { long = refl; means = means; ok = ok }

-- ---- the truck with seventeen pages for the allocator

abbrev pub wide : Config
wide = two 7 9 first second 65536 17

wide_valid : Valid 0 65536 17
wide_valid = record { on = record { some = lit< tt; guest_start = refl; host_start = refl }; guest_end = lit< tt; host_end = lit< tt }

pub wide_ok : ConfigOk wide
wide_ok =
    two_ok 7 9 first second 65536 17 (λ e. omega (arith, e)) first_valid second_valid wide_valid apart
    (λ s. let x = s.first.low in let y = s.second.high in omega arith)
    (λ s. let x = s.first.low in let y = s.second.high in omega arith)

abbrev pub wide_bytes : List ℕ
wide_bytes = two_bytes 7 9 first second 65536 17

pub wide_same : Same (config_of wide_bytes) wide
wide_same = two_same 7 9 first second 65536 17

pub wide_right : Right wide_bytes blank
wide_right = record { long = refl; means = two_means 7 9 first second 65536 17; ok = ok_same (same_back wide_same) wide_ok }
