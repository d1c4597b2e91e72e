-- Memories with which no list can be attempted are not sound. Assumes nothing.
use mathlib.Core.List.{List}
use Prim.Native.Nat.{ℕ}
use borrow.Author.Tests.{ne_eqb}
use Rattle.std.specs.Prelude.{Err}
use Rattle.base.proofs.Choices.{lowest_none}
use Rattle.config_table.specs.declared.Unlisted.{Unlisted}
use Rattle.config_table.specs.Holding.{MachineSays}
use Rattle.zones.specs.Layout.{unlisted}
use Rattle.list_asker.specs.Listing.{ListerSays}

-- why the table lists no machine is why there is no lister
pub not_listed : (t tr o w : List ℕ) (number : ℕ) (why : Unlisted) → MachineSays t number (Err why) → ListerSays t tr o w number (Err (unlisted why))
not_listed t tr o w number Unlisted.NoMachine h = lowest_none _ _ (λ k l. ne_eqb _ _ (h.1 k l))
not_listed t tr o w number Unlisted.NoTable h = λ z s. h s.table.table.long
