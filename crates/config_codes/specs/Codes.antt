-- The numbers of the answers about a configuration. Assumes nothing.
use Rattle.std.specs.Prelude.{ℕ}
use Rattle.address.specs.declared.Fault.{Fault}
use Rattle.config_rules.specs.declared.Reason.{Reason}
use Rattle.config_codes.specs.declared.Four.{Four}

-- the number of a fault
unfoldable pub fault_number : Fault → ℕ
fault_number Fault.NoPage = 1
fault_number Fault.GuestStart = 2
fault_number Fault.HostStart = 3
fault_number Fault.GuestEnd = 4
fault_number Fault.HostEnd = 5

-- the code of a reason
unfoldable pub reason_code : Reason → ℕ
reason_code (Reason.TooShort at) = 32
reason_code Reason.TooManyMachines = 33
reason_code (Reason.TooManyRegions m) = 34
reason_code (Reason.UnknownKind m i) = 35
reason_code (Reason.SameNumber m n) = 36
reason_code (Reason.NotValid m i f) = 37
reason_code (Reason.PoolNotValid f) = 38
reason_code (Reason.HostShared m i n j) = 39
reason_code (Reason.NotCoinciding m i n j) = 40
reason_code (Reason.OneMachine m i j) = 41
reason_code (Reason.GuestShared m i j) = 42
reason_code (Reason.PoolShared m i) = 43
reason_code (Reason.LeftOver at) = 44

-- four numbers as one value
abbrev pub four_of : ℕ → ℕ → ℕ → ℕ → Four
four_of a b c d = record { first = a; second = b; third = c; fourth = d }

-- the numbers of a reason: its places in their order, a fault by its number, and 0 behind them
unfoldable pub reason_numbers : Reason → Four
reason_numbers (Reason.TooShort at) = four_of at 0 0 0
reason_numbers Reason.TooManyMachines = four_of 0 0 0 0
reason_numbers (Reason.TooManyRegions m) = four_of m 0 0 0
reason_numbers (Reason.UnknownKind m i) = four_of m i 0 0
reason_numbers (Reason.SameNumber m n) = four_of m n 0 0
reason_numbers (Reason.NotValid m i f) = four_of m i (fault_number f) 0
reason_numbers (Reason.PoolNotValid f) = four_of (fault_number f) 0 0 0
reason_numbers (Reason.HostShared m i n j) = four_of m i n j
reason_numbers (Reason.NotCoinciding m i n j) = four_of m i n j
reason_numbers (Reason.OneMachine m i j) = four_of m i j 0
reason_numbers (Reason.GuestShared m i j) = four_of m i j 0
reason_numbers (Reason.PoolShared m i) = four_of m i 0 0
reason_numbers (Reason.LeftOver at) = four_of at 0 0 0
