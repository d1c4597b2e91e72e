-- An example of every answer to how much is to be lent. Assumes nothing.
use mathlib.Core.Path.{refl}
use lib.Dec.{lit<, lit≤}
use Rattle.bitmap_tree.proofs.Fullness.{pow_le}
use Rattle.std.proofs.Common.{Ok, Err}
use Rattle.lending.specs.declared.TooMany.{TooMany}
use Rattle.lending.specs.Lending.{AmountSays}
use Rattle.bitmap_examples.proofs.Trees.{full}

-- four machines with three slots in each set, and two frames, which a tree of one word has
pub to_lend_ok : AmountSays 4 3 2 (Ok (record { table = 8325; zones = 108; tree = 1; owners = 16; words = 1024 }))
to_lend_ok = (
  lit≤ tt,
  lit≤ tt,
  lit≤ tt,
  record { table = refl; zones = refl; tree = record { full = full; enough = lit≤ tt; least = λ d p l. pow_le 1 d p }; owners = refl; words = refl },
)

pub to_lend_machines : AmountSays 65 3 2 (Err TooMany.Machines)
to_lend_machines = lit< tt

pub to_lend_slots : AmountSays 4 33 2 (Err TooMany.Slots)
to_lend_slots = (lit≤ tt, lit< tt)

pub to_lend_frames : AmountSays 4 3 4503599627370497 (Err TooMany.Frames)
to_lend_frames = (lit≤ tt, lit≤ tt, lit< tt)
