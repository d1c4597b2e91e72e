-- `set_shifts::take_out` meets its contract. Assumes nothing.
use native.Mathlib.Omega.{arith}
use mathlib.Core.Path.{refl, ◌∙◌}
use lib.ListN.{length-set}
use Rattle.set_shifts.proofs.Changes.{removed}
use Rattle.set_shifts.proofs.take_out.Goals as goal

pub returns : goal.returns
returns c =
    record {
      long = simp length-set (c.erase.ensures.long ∙ c.shift_down.ensures.only.long);
      became = λ slots t d s. removed t c.args.last d refl c.requires.2 (omega (arith, c.requires.0, c.requires.2)) s c.shift_down.ensures c.erase.ensures;
    }
