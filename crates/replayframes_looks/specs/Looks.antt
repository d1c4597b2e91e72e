-- What the exported functions of the bitmap say: that the bitmap's own function could have answered something of which the result is the
-- code, and what stands behind the pointer its value. Assumes nothing.
use Rattle.std.specs.Prelude.{List, ℕ, Bool, true, false, Option, Some, None, Result, Ok, Err}
use Rattle.bitmap_tree.specs.declared.NotFull.{NotFull}
use Rattle.bitmap_looks.specs.declared.NotTested.{NotTested}
use Rattle.bitmap_looks.specs.declared.NoNext.{NoNext}
use Rattle.bitmap_looks.specs.declared.Unsound.{Unsound}
use Rattle.bitmap_looks.specs.Looks.{WordsSays, CapSays, CountSays, AnySays, TestSays, NextSays, CheckSays}
use Rattle.codes.specs.Codes.{Valued, done, not_full, no_size, outside, no_room, corrupt}

-- ---- the code and the value of each answer

abbrev pub words_code : Option ℕ → ℕ
words_code (Some n) = done
words_code None = no_size

abbrev pub words_value : Option ℕ → ℕ → ℕ
words_value (Some n) old = n
words_value None old = old

abbrev pub counted_code : Result ℕ NotFull → ℕ
counted_code (Ok n) = done
counted_code (Err _) = not_full

abbrev pub counted_value : Result ℕ NotFull → ℕ → ℕ
counted_value (Ok n) old = n
counted_value (Err _) old = old

abbrev pub any_code : Result Bool NotFull → ℕ
any_code (Ok true) = done
any_code (Ok false) = done
any_code (Err _) = not_full

abbrev pub any_value : Result Bool NotFull → ℕ → ℕ
any_value (Ok true) old = 1
any_value (Ok false) old = 0
any_value (Err _) old = old

abbrev pub test_code : Result Bool NotTested → ℕ
test_code (Ok true) = done
test_code (Ok false) = done
test_code (Err NotTested.Outside) = outside
test_code (Err NotTested.NotFull) = not_full

abbrev pub test_value : Result Bool NotTested → ℕ → ℕ
test_value (Ok true) old = 1
test_value (Ok false) old = 0
test_value (Err NotTested.Outside) old = old
test_value (Err NotTested.NotFull) old = old

abbrev pub next_code : Result ℕ NoNext → ℕ
next_code (Ok f) = done
next_code (Err NoNext.Nothing) = no_room
next_code (Err NoNext.Corrupt) = corrupt
next_code (Err NoNext.Outside) = outside
next_code (Err NoNext.NotFull) = not_full

abbrev pub next_value : Result ℕ NoNext → ℕ → ℕ
next_value (Ok f) old = f
next_value (Err NoNext.Nothing) old = old
next_value (Err NoNext.Corrupt) old = old
next_value (Err NoNext.Outside) old = old
next_value (Err NoNext.NotFull) old = old

abbrev pub check_code : Result Unit Unsound → ℕ
check_code (Ok _) = done
check_code (Err (Unsound.Lie p)) = corrupt
check_code (Err Unsound.NotFull) = not_full

abbrev pub check_value : Result Unit Unsound → ℕ → ℕ
check_value (Ok _) old = old
check_value (Err (Unsound.Lie p)) old = p
check_value (Err Unsound.NotFull) old = old

-- ---- the functions: old and new stand behind the pointer before and after, and r is the result

abbrev pub WordsCode : ℕ → ℕ → ℕ → ℕ → Type 0
WordsCode frames old new r = Valued (WordsSays frames) words_code words_value old new r

abbrev pub CapCode : List ℕ → ℕ → ℕ → ℕ → Type 0
CapCode t old new r = Valued (CapSays t) counted_code counted_value old new r

abbrev pub CountCode : List ℕ → ℕ → ℕ → ℕ → Type 0
CountCode t old new r = Valued (CountSays t) counted_code counted_value old new r

abbrev pub AnyCode : List ℕ → ℕ → ℕ → ℕ → Type 0
AnyCode t old new r = Valued (AnySays t) any_code any_value old new r

abbrev pub TestCode : List ℕ → ℕ → ℕ → ℕ → ℕ → Type 0
TestCode t k old new r = Valued (TestSays t k) test_code test_value old new r

abbrev pub NextCode : List ℕ → ℕ → ℕ → ℕ → ℕ → Type 0
NextCode t k old new r = Valued (NextSays t k) next_code next_value old new r

abbrev pub CheckCode : List ℕ → ℕ → ℕ → ℕ → Type 0
CheckCode t old new r = Valued (CheckSays t) check_code check_value old new r
