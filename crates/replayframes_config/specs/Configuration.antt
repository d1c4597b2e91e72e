-- What the exported functions of the configuration say: that config's own function could have answered something of which the result is
-- the code, and what stands behind the pointers its numbers. Assumes nothing.
use Rattle.std.specs.Prelude.{◌≡◌, List, ℕ, Result, Ok, Err}
use Rattle.config.specs.Checking.{CheckSays}
use Rattle.config.specs.Loading.{LoadSays}
use Rattle.config_rules.specs.declared.Reason.{Reason}
use Rattle.config.specs.declared.NotLoaded.{NotLoaded}
use Rattle.config_codes.specs.declared.Four.{Four}
use Rattle.codes.specs.Codes.{no_table}
use Rattle.config_codes.specs.Codes.{four_of, reason_code, reason_numbers}

-- the code of a verdict, and its numbers
abbrev pub verdict_code : Result ℕ Reason → ℕ
verdict_code (Ok n) = 0
verdict_code (Err r) = reason_code r

abbrev pub verdict_numbers : Result ℕ Reason → Four
verdict_numbers (Ok n) = four_of n 0 0 0
verdict_numbers (Err r) = reason_numbers r

-- r is the code of a verdict on the bytes, and the four numbers are its own
pub record CheckCode (s : List ℕ) (first second third fourth r : ℕ) : Type 0 where
  pub answer : Result ℕ Reason
  pub says : CheckSays s answer
  pub is : r ≡ verdict_code answer
  pub numbers : four_of first second third fourth ≡ verdict_numbers answer

-- the code of what became of a configuration that was to be loaded
abbrev pub loaded_code : Result ℕ NotLoaded → ℕ
loaded_code (Ok n) = 0
loaded_code (Err (NotLoaded.Refused r)) = reason_code r
loaded_code (Err NotLoaded.NoTable) = no_table

-- r is the code of an answer
pub record LoadCode (s t t' : List ℕ) (r : ℕ) : Type 0 where
  pub answer : Result ℕ NotLoaded
  pub says : LoadSays s t t' answer
  pub is : r ≡ loaded_code answer
