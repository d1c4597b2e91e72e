-- What a function that answers yes or no says. Assumes nothing.
use Rattle.std.specs.Prelude.{Bool, true, false}

-- true says P, and false says that P does not hold
abbrev pub Says : Bool → Type 0 → Type 0
Says true P = P
Says false P = P → ⊥
