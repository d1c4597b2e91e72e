-- What `check` answers of bytes s. Assumes nothing.
use Rattle.std.specs.Prelude.{◌≡◌, List, ℕ, ◌+◌, ◌<◌, length, Result, Ok, Err}
use Rattle.config_model.specs.Config.{ConfigOk}
use Rattle.config_model.specs.Rules.{Rules}
use Rattle.config_bytes.specs.Fields.{config_of, machines, tail, Readable, Means}
use Rattle.config_bytes.specs.Reading.{read_of}
use Rattle.config_bytes.specs.declared.Misread.{Misread}
use Rattle.config_rules.specs.Judging.{WrongSays}
use Rattle.config_rules.specs.declared.Reason.{Reason}

-- the bytes mean a configuration, which is right and has n machines
pub record IsRight (s : List ℕ) (n : ℕ) : Type 0 where
  pub means : Means s
  pub ok : ConfigOk (config_of s)
  pub number : n ≡ machines s

-- every field can be read, every rule holds, and the bytes go on behind the last field, from `at` on
pub record GoesOn (s : List ℕ) (at : ℕ) : Type 0 where
  pub readable : Readable s
  pub rules : Rules (config_of s)
  pub end : at ≡ tail s + 16
  pub more : at < length s

-- the reason that a field is refused for
abbrev pub reason_of : Misread → Reason
reason_of (Misread.TooShort at) = Reason.TooShort at
reason_of Misread.TooManyMachines = Reason.TooManyMachines
reason_of (Misread.TooManyRegions m) = Reason.TooManyRegions m
reason_of (Misread.UnknownKind m i) = Reason.UnknownKind m i

-- the reason is the first that there is: from the fields front to back, then from the rules in their order, then from the length
abbrev pub RefusedSays : List ℕ → Reason → Type 0
RefusedSays s (Reason.TooShort at) = read_of s ≡ Err (Misread.TooShort at)
RefusedSays s Reason.TooManyMachines = read_of s ≡ Err Misread.TooManyMachines
RefusedSays s (Reason.TooManyRegions m) = read_of s ≡ Err (Misread.TooManyRegions m)
RefusedSays s (Reason.UnknownKind m i) = read_of s ≡ Err (Misread.UnknownKind m i)
RefusedSays s (Reason.SameNumber m m') = Readable s × WrongSays (config_of s) (Reason.SameNumber m m')
RefusedSays s (Reason.NotValid m i f) = Readable s × WrongSays (config_of s) (Reason.NotValid m i f)
RefusedSays s (Reason.PoolNotValid f) = Readable s × WrongSays (config_of s) (Reason.PoolNotValid f)
RefusedSays s (Reason.HostShared m i m' i') = Readable s × WrongSays (config_of s) (Reason.HostShared m i m' i')
RefusedSays s (Reason.NotCoinciding m i m' i') = Readable s × WrongSays (config_of s) (Reason.NotCoinciding m i m' i')
RefusedSays s (Reason.OneMachine m i i') = Readable s × WrongSays (config_of s) (Reason.OneMachine m i i')
RefusedSays s (Reason.GuestShared m i i') = Readable s × WrongSays (config_of s) (Reason.GuestShared m i i')
RefusedSays s (Reason.PoolShared m i) = Readable s × WrongSays (config_of s) (Reason.PoolShared m i)
RefusedSays s (Reason.LeftOver at) = GoesOn s at

abbrev pub CheckSays : List ℕ → Result ℕ Reason → Type 0
CheckSays s (Ok n) = IsRight s n
CheckSays s (Err r) = RefusedSays s r
