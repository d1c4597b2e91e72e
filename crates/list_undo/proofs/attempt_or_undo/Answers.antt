-- `list_undo::attempt_or_undo` meets its contract. Assumes nothing.
use mathlib.Core.Path.{sym, ◌∙◌, ap}
use lib.ListN.{length}
use Rattle.list_undo.proofs.attempt_or_undo.Goals as goal

pub copy_all-requires-in-Err : goal.copy_all-requires-in-Err
copy_all-requires-in-Err c =
    let e = c.copy_all.ensures in
    record {
      zones = c.zones-1.given ∙ sym (ap length e.zones);
      tree = c.tree-1.given ∙ sym (ap length e.tree);
      owners = c.owners-1.given ∙ sym (ap length e.owners);
    }

pub returns-in-Err : goal.returns-in-Err
returns-in-Err c =
    let e = c.copy_all.ensures in
    let g = c.copy_all-in-Err.ensures in
    record {
      tree = e.tree;
      owners = e.owners;
      says = (g.zones ∙ e.zones, g.tree ∙ e.tree, g.owners ∙ e.owners, c.in-Err.ensures.says);
      told = c.in-Err.ensures.told;
    }
