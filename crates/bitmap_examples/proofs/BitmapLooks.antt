-- An example of every answer of the functions that only look at a tree. Assumes nothing.
use mathlib.Core.Bool.{true, false}
use mathlib.Core.Path.{refl}
use native.Mathlib.Omega.{arith}
use lib.Dec.{lit<, lit≤}
use Rattle.std.proofs.Common.{Some, None, Ok, Err}
use Rattle.base.specs.Ranges as ranges
use Rattle.bitmap_tree.specs.Tree as tree
use Rattle.bitmap_looks.specs.Looks.{WordsSays, CapSays, CountSays, AnySays, TestSays, NextSays, CheckSays}
use Rattle.bitmap_looks.specs.declared.NotTested.{NotTested}
use Rattle.bitmap_looks.specs.declared.NoNext.{NoNext}
use Rattle.bitmap_looks.specs.declared.Unsound.{Unsound}
use Rattle.bitmap_examples.proofs.Trees.{nothing, taken, one, lying, not_full_lem, full, full_lying, agree, lie, lies, none_free, first_free, one_free}

-- ---- words_for

pub words_for_some : WordsSays 16 (Some 1)
words_for_some = (full, refl)

pub words_for_none : WordsSays 17 None
words_for_none w f e = omega arith

-- ---- cap

pub cap_ok : CapSays one (Ok 16)
cap_ok = (full, refl)

pub cap_not_full : CapSays nothing (Err (record {}))
cap_not_full = not_full_lem

-- ---- count_free

pub count_free_ok : CountSays one (Ok 1)
unfolding tree.node_bit ranges.how_many
count_free_ok = (full, refl)

pub count_free_not_full : CountSays nothing (Err (record {}))
count_free_not_full = not_full_lem

-- ---- any

pub any_true : AnySays one (Ok true)
any_true = (full, (λ e. omega (arith, e)), λ a. record { frame = 0; within = lit< tt; is = first_free })

pub any_false : AnySays taken (Ok false)
any_false = (full, refl, λ a k l h. none_free k)

pub any_not_full : AnySays nothing (Err (record {}))
any_not_full = not_full_lem

-- ---- test

pub test_true : TestSays one 0 (Ok true)
test_true = (full, lit< tt, first_free)

pub test_false : TestSays taken 0 (Ok false)
test_false = (full, lit< tt, none_free 0)

pub test_outside : TestSays one 16 (Err NotTested.Outside)
test_outside = (full, lit≤ tt)

pub test_not_full : TestSays nothing 0 (Err NotTested.NotFull)
test_not_full = not_full_lem

-- ---- next

pub next_ok : NextSays one 0 (Ok 0)
next_ok = (full, record { within = lit< tt; from = lit≤ tt; is = first_free; first = λ a m l h. omega arith })

pub next_nothing : NextSays one 1 (Err NoNext.Nothing)
next_nothing = (full, lit< tt, λ a k l h. one_free k (omega arith))

pub next_corrupt : NextSays lying 0 (Err NoNext.Corrupt)
next_corrupt = (full_lying, lit< tt, lies)

pub next_outside : NextSays one 16 (Err NoNext.Outside)
next_outside = (full, lit≤ tt)

pub next_not_full : NextSays nothing 0 (Err NoNext.NotFull)
next_not_full = not_full_lem

-- ---- check

pub check_ok : CheckSays one (Ok tt)
check_ok = (full, agree 1)

pub check_lie : CheckSays lying (Err (Unsound.Lie 0))
check_lie = (full_lying, record { child = 1; some = lit< tt; within = lit< tt; under = refl; lies = lie; lowest = λ n a b c. omega arith })

pub check_not_full : CheckSays nothing (Err Unsound.NotFull)
check_not_full = not_full_lem
