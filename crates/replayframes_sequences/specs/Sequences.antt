-- What the exported function for sequences of calls says: that the bytes were served with an answer of which the result is the code, and what
-- stands behind the pointer its number. Assumes nothing.
use Rattle.std.specs.Prelude.{List, ℕ, Result, Ok, Err}
use Rattle.codes.specs.Codes.{Valued, done, broken, few_words, bad_spare}
use Rattle.hv_state.specs.Memory.{Mem}
use Rattle.hv_run.specs.declared.NotRun.{NotRun}
use Rattle.hv_run.specs.Sequence.{RanSays}

-- the code of what came of a sequence of calls
abbrev pub ran_code : Result ℕ NotRun → ℕ
ran_code (Ok n) = done
ran_code (Err (NotRun.Broken q)) = broken
ran_code (Err NotRun.FewWords) = few_words
ran_code (Err NotRun.Spare) = bad_spare

-- how many calls were served, or where the bytes are no sequence, or `old` where they were not looked at
abbrev pub ran_offset : Result ℕ NotRun → ℕ → ℕ
ran_offset (Ok n) old = n
ran_offset (Err (NotRun.Broken q)) old = q
ran_offset (Err NotRun.FewWords) old = old
ran_offset (Err NotRun.Spare) old = old

-- the sequence of calls that the bytes s are was served: the memories were b and are b', r is the code of what came of it, and the pointer
-- holds its number, or what it held where it has none
abbrev pub RunCode : List ℕ → List ℕ → List ℕ → List ℕ → List ℕ → List ℕ → Mem → Mem → List ℕ → List ℕ → ℕ → ℕ → ℕ → Type 0
RunCode s replies answers spareZones spareTree spareOwners b b' replies' answers' offset offset' r =
    Valued (RanSays s replies answers spareZones spareTree spareOwners b b' replies' answers') ran_code ran_offset offset offset' r
